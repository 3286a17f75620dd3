-- What a person reads of a conflict (this project's own rule).
use Rattle.std.specs.Prelude.{ℕ, suc, ◌==◌, Bool, List, [], ◌∷◌, ◌++◌, codes, if◌then◌else◌}
use Rattle.std.specs.Prelude.{Option, None, Some, unwrap_or}
use Rattle.std.specs.List.{flat_map}
use Rattle.std.specs.Fmt.{decimal}
use Rattle.usfm_ref.specs.Books.{same_bytes}
use Rattle.usfm_ref.specs.References.{ref_text}
use Rattle.usfm_ref.specs.declared.segment.Segment.{Segment}
use Rattle.word_diff.specs.Kinds.{is_kept, is_new, is_old}
use Rattle.word_diff.specs.declared.part.Part.{Part}
use Rattle.op_core.specs.Ids.{Id}
use Rattle.op_core.specs.Ops.{Operation, own_text}
use Rattle.op_core.specs.Shown.{Pick, Line, Greatest, Empty, is_empty}
use Rattle.conflict_settling.specs.Entries.{EntryView}
use Rattle.plain_line.specs.Plain as plain
use Rattle.plain_line.specs.declared.text.CarriageReturn.TheVariants.{LeftOut, Spelled}
use Rattle.conflict_settling.specs.declared.question.Manner.{Manner}
use Rattle.conflict_settling.specs.declared.question.Manner.TheVariants.{Brackets, Reverse}

-- ---- the lines

-- the segment's reference, and how many conflicts are left, between empty lines
abbrev pub head_line : Segment → ℕ → List ℕ
head_line g left =
    10 ∷ (ref_text g.book g.key ++ (codes ", " ++ (decimal left ++ codes " left\n\n")))

-- a text that stands before the segment, and a line feed; nothing where it is empty
abbrev pub before_lines : List ℕ → List ℕ
before_lines text =
    if is_empty text then [] else codes "before it:\n" ++ (plain.text LeftOut text ++ 10 ∷ [])

-- an id: its number, a space and its name
abbrev pub id_words : Id → List ℕ
id_words id = decimal id.number ++ 32 ∷ id.name

-- what is said of the first text by what is picked: the book has it, or in the place of no text its
-- chapter's line
abbrev pub pick_mark : Pick → List ℕ
pick_mark (Line chapter) = codes ", in the book as \\c " ++ decimal chapter
pick_mark (Greatest o) = codes ", in the book"
pick_mark Empty = []

-- the line before a text: its number, the id of its operation, for the first what is picked, and
-- that it is empty
abbrev pub entry_head : Pick → EntryView → List ℕ
entry_head picked e =
    decimal e.number ++ (codes ": " ++ (id_words e.op.id
    ++ ((if e.number == 1 then pick_mark picked else [])
    ++ ((if is_empty (own_text e.op) then codes ", no text" else []) ++ 10 ∷ []))))

-- the number of the first of some operations that has a text, where the first has this number
abbrev pub number_from : ℕ → List Operation → List ℕ → Option ℕ
number_from n [] text = None
number_from n (o ∷ later) text =
    if same_bytes (own_text o) text then Some n else number_from (suc n) later text

-- the number of the first of some operations that has a text; 0 where none has it
abbrev pub number_in : List Operation → List ℕ → ℕ
number_in ops text = unwrap_or (number_from 1 ops text) 0

-- an operation that has one of these texts too, and the number of that
abbrev pub repeated_line : List Operation → Operation → List ℕ
repeated_line texts o =
    id_words o.id ++ (codes " has text "
    ++ (decimal (number_in texts (own_text o)) ++ codes " too\n"))

-- what may be answered
abbrev pub choice_line : List ℕ
choice_line = codes
    "Type the number of the text to keep, e to type your own, s to skip, q to stop.\n"

-- ---- what differs

-- what is written before what differs: a bracket, or the sequence that begins reverse video
-- (ECMA-48, SGR 7)
abbrev pub opening : Manner → List ℕ
opening Brackets = codes "["
opening Reverse = 27 ∷ codes "[7m"

-- what is written after it: a bracket, or the sequence that ends reverse video (SGR 27)
abbrev pub closing : Manner → List ℕ
closing Brackets = codes "]"
closing Reverse = 27 ∷ codes "[27m"

-- a byte of what differs; a line feed (10) stands outside
abbrev pub set_off_byte : Manner → ℕ → List ℕ
set_off_byte manner b = if b == 10 then closing manner ++ 10 ∷ opening manner else b ∷ []

-- what differs, each line of it set off by itself, in which also line ends are spelled out
abbrev pub set_off : Manner → List ℕ → List ℕ
set_off manner text =
    opening manner ++ (flat_map (set_off_byte manner) (plain.text Spelled text) ++ closing manner)

-- a part of two texts that is in the first or in the other one: what is not in both is set off
abbrev pub part_bytes : Manner → Part → List ℕ
part_bytes manner part =
    if is_kept part.kind then plain.text LeftOut part.text.now else set_off manner part.text.now

-- the part, if it is on this side: that of the first text, or else the other
abbrev pub part_on : Manner → Bool → Part → List ℕ
part_on manner is_first part =
    if (if is_first then is_old part.kind else is_new part.kind) then part_bytes manner part else []

-- a text, with what differs set off
abbrev pub side : Manner → EntryView → List ℕ
side manner e = flat_map (part_on manner (e.number == 1)) e.parts

-- a text after the line before it, and a line feed
abbrev pub entry_lines : Manner → Pick → EntryView → List ℕ
entry_lines manner picked e = entry_head picked e ++ (side manner e ++ 10 ∷ [])
