-- The plain text of a part of a book, with its conflicts marked (this project's own rule).
use Rattle.std.specs.Prelude.{ℕ, ◌+◌, ◌-◌, ◌==◌, Bool, true, false, List, [], ◌∷◌, ◌++◌, length, drop, filter, codes, if◌then◌else◌}
use Rattle.std.specs.List.{flat_map, prefix_len}
use Rattle.usfm_ref.specs.Keys.{KeyParts, same_key}
use Rattle.usfm_ref.specs.declared.segment.Segment.{Segment}
use Rattle.verse_cut.specs.Keys.{key_below}
use Rattle.verse_cut.specs.Pieces.{PieceParts, pieces_of}
use Rattle.usfm_tree.specs.Reading.{Styles}
use Rattle.book_reading.specs.Readings.{RunParts, reading_of}
use Rattle.book_reading.specs.declared.run.Sort.TheVariants.{Words}
use Rattle.plain_reading.specs.Lines.{plain}
use Rattle.plain_reading.specs.declared.part.Part.{Part}
use Rattle.plain_reading.specs.declared.part.Part.TheVariants.{Whole, OneChapter, OneKey}

-- ---- what is read

-- whether a key is in the part
abbrev pub has : Part → KeyParts → Bool
has Whole key = true
has (OneChapter chapter) key = key.chapter == chapter
has (OneKey one) key = same_key key one

-- the pieces of a text whose keys are in the part
abbrev pub pieces_in : Part → List ℕ → List PieceParts
pieces_in part text = filter (λ p. has part p.key) (pieces_of text)

-- the texts of pieces, joined
abbrev pub joined : List PieceParts → List ℕ
joined ps = flat_map (λ p. p.text) ps

-- ---- where conflicts are

-- the segments from a key on, where they rise
abbrev pub from_key : KeyParts → List Segment → List Segment
from_key key gs = drop (prefix_len (λ g. key_below g.key key) gs) gs

-- whether the first of them is at the key
abbrev pub is_first : KeyParts → List Segment → Bool
is_first key [] = false
is_first key (g ∷ gs) = same_key g.key key

-- How many bytes lie before each piece that is in conflict, from the piece in conflict before it on,
-- or from the front, where so many lie before these pieces.
abbrev pub gaps : ℕ → List Segment → List PieceParts → List ℕ
gaps since gs [] = []
gaps since gs (p ∷ ps) =
    if is_first p.key (from_key p.key gs)
    then since ∷ gaps (length p.text) (from_key p.key gs) ps
    else gaps (since + length p.text) (from_key p.key gs) ps

-- ---- how they are marked

-- the word that marks a conflict, between spaces
abbrev pub conflict_word : List ℕ
conflict_word = codes " [conflict] "

-- that word, where a run stands
abbrev pub conflict_at : RunParts → RunParts
conflict_at r = record { sort = Words; style = []; note = r.note; text = conflict_word }

-- the gaps that are left when so many bytes more are passed
abbrev pub passed : ℕ → List ℕ → List ℕ
passed n [] = []
passed n (gap ∷ more) = (gap - n) ∷ more

-- a gap has ended
abbrev pub is_due : List ℕ → Bool
is_due [] = false
is_due (gap ∷ more) = gap == 0

-- the gaps after one that has ended
abbrev pub not_due : List ℕ → List ℕ
not_due [] = []
not_due (gap ∷ more) = if gap == 0 then more else gap ∷ more

-- runs, with the word after the run at the end of each gap, which is the mark of a piece
abbrev pub marked : List ℕ → List RunParts → List RunParts
marked left [] = []
marked left (r ∷ rs) =
    r ∷ ((if is_due left then conflict_at r ∷ [] else [])
    ++ marked (passed (length r.text) (not_due left)) rs)

-- the plain text of a part of a book by the styles of its marks, in lines of so many columns, where
-- these segments of the book are in conflict
unfoldable pub part_text : Styles → ℕ → Part → List Segment → List ℕ → List ℕ
part_text styles width part gs text =
    plain width
    (marked (gaps 0 gs (pieces_in part text)) (reading_of styles (joined (pieces_in part text))))
