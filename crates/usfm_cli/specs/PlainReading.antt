-- A book, a chapter or a segment of a project as plain text (this project's own rule).
use Rattle.std.specs.Prelude.{ℕ, List, [], ◌∷◌, None, Result, Ok}
use Rattle.usfm_ref.specs.Keys.{KeyParts}
use Rattle.usfm_ref.specs.declared.key.Place.{Place}
use Rattle.usfm_ref.specs.declared.key.Place.TheVariants.{Head, Verse}
use Rattle.sty_sheet.specs.Records.{Record}
use Rattle.usfm_tree.specs.SheetViews.{styles_in}
use Rattle.op_core.specs.Ops.{Operation}
use Rattle.conflict_settling.specs.Pending.{open_conflicts}
use Rattle.conflict_settling.specs.Wanted.{book_of}
use Rattle.conflict_settling.specs.declared.wanted.Wanted.{Wanted}
use Rattle.conflict_settling.specs.declared.wanted.Wanted.TheVariants.{Whole, One}
use Rattle.plain_reading.specs.Parts.{part_text}
use Rattle.plain_reading.specs.declared.part.Part.{Part}
use Rattle.plain_reading.specs.declared.part.Part.TheVariants as parts
use Rattle.usfm_cli.specs.SheetReports.{by_sheet, by_book_text}
use Rattle.command_faults.specs.declared.fault.Fault.{Fault}

-- what of a book is read at a place: at a head its chapter, and at a verse its segment
abbrev pub part_at : KeyParts → Place → Part
part_at key Head = parts.OneChapter key.chapter
part_at key (Verse number letter) = parts.OneKey key

-- what of a book is read, by what is named
abbrev pub part_of : Wanted → Part
part_of (Whole book) = parts.Whole
part_of (One book key) = part_at key key.place

-- the plain text of what is named of a book's text, where the project's conflicts are marked
abbrev pub wanted_text : List Record → List Operation → Wanted → ℕ → List ℕ → List ℕ
wanted_text records held wanted width text =
    part_text (styles_in records) width (part_of wanted)
    (open_conflicts held (Whole (book_of wanted) ∷ []) None) text

-- the same of the book's export, or that the book has no operation
abbrev pub read_by : List Operation → Wanted → ℕ → List Record → Result (List ℕ) Fault
read_by held wanted width records =
    by_book_text held (book_of wanted) (λ text. Ok (wanted_text records held wanted width text))

-- the same by a sheet that is given as bytes
abbrev pub read_of : List Operation → Wanted → ℕ → List ℕ → Result (List ℕ) Fault
read_of held wanted width sheet = by_sheet sheet (read_by held wanted width)
