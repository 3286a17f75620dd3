-- The blocks and the notes of a reading (this project's own rule).
use Rattle.std.specs.Prelude.{ℕ, Bool, not, ◌&&◌, List, [], ◌∷◌, take, Option, None, Some, is_some, if◌then◌else◌}
use Rattle.std.specs.List.{prefix_len}
use Rattle.book_reading.specs.Readings.{RunParts, is_caller}
use Rattle.book_reading.specs.declared.kind.BlockKind.{BlockKind}
use Rattle.book_reading.specs.declared.run.Sort.{Sort}
use Rattle.book_reading.specs.declared.run.Sort.TheVariants as sorts

-- a block: the kind of its paragraph, which what comes before all paragraphs has not, and its runs
pub record BlockParts : Type 0 where
  pub kind : Option BlockKind
  pub runs : List RunParts

-- the kind of the block that a run begins, if it begins one
abbrev pub begins : Sort → Option BlockKind
begins (sorts.Paragraph kind) = Some kind
begins sorts.Caller = None
begins sorts.Markup = None
begins sorts.Words = None
begins sorts.Caption = None
begins sorts.Verse = None
begins sorts.Chapter = None
begins sorts.Unknown = None

-- a run before blocks: it is a block of its own where there is none, or the first of them begins
-- with a paragraph's mark; else it goes in front of what the first has
abbrev pub in_front : RunParts → List BlockParts → List BlockParts
in_front r [] = record { kind = begins r.sort; runs = r ∷ [] } ∷ []
in_front r (b ∷ bs) =
    if is_some b.kind then record { kind = begins r.sort; runs = r ∷ [] } ∷ b ∷ bs
    else record { kind = begins r.sort; runs = r ∷ b.runs } ∷ bs

-- the blocks of runs: each begins with a paragraph's mark, but for one before all these marks
abbrev pub blocks_of : List RunParts → List BlockParts
blocks_of [] = []
blocks_of (r ∷ rs) = in_front r (blocks_of rs)

-- a note: its number, and its runs
pub record NoteParts : Type 0 where
  pub number : Option ℕ
  pub runs : List RunParts

-- a run that stands in the note which has begun before it
abbrev pub goes_on : RunParts → Bool
goes_on r = is_some r.note && not (is_caller r.sort)

-- the notes of runs, in order: each is a note's mark with all that follows of it
abbrev pub notes_of : List RunParts → List NoteParts
notes_of [] = []
notes_of (r ∷ rs) =
    if is_caller r.sort
    then record { number = r.note; runs = r ∷ take (prefix_len goes_on rs) rs } ∷ notes_of rs
    else notes_of rs
