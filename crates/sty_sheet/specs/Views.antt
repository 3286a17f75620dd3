-- What a contract sees of a style and of a sheet: its records, and not where their texts lie in
-- memory.
pub use Rattle.sty_sheet.specs.StyleViews.{record_of}
use Rattle.sty_sheet.specs.Listing.{styles_in}
use Rattle.std.specs.Prelude.{◌≡◌, ℕ, List, map, Result, Ok, Err}
use Rattle.sty_sheet.specs.Records.{Record, words_of}
use Rattle.sty_sheet.specs.declared.fault.SheetFault.{SheetFault}
use Rattle.sty_sheet.specs.declared.fault.SheetFault.TheVariants.{Memory, FieldBeforeMarker, EmptyMarker, BadStyleType}
use Rattle.sty_sheet.specs.declared.sheet.Sheet.{Sheet}
use Rattle.sty_sheet.specs.declared.records.Records.{Records}
use Rattle.sty_sheet.specs.declared.styles.Styles.{Styles}
use Rattle.sty_sheet.specs.declared.under.UnderWords.{UnderWords}

-- the records of a sheet, in the order in which their markers first come
abbrev pub records_of : Sheet → List Record
records_of sheet = map record_of (styles_in sheet.styles)

-- the records that were read so far, in the order in which their markers first come
abbrev pub records_in : Records → List Record
records_in records = map record_of (styles_in records.styles)

-- the records that an iterator has left
abbrev pub records_left : Styles → List Record
records_left styles = map record_of (map (λ l. l.style) styles.values)

-- the words that an iterator over those of OccursUnder has left
abbrev pub words_left : UnderWords → List (List ℕ)
words_left words = words_of words.rest.now

-- what a reading answers: the records that are to be read, or their fault; out of memory alone says
-- nothing of them
abbrev pub Gives : Result Sheet SheetFault → Result (List Record) SheetFault → Type 0
Gives (Ok sheet) read = read ≡ Ok (records_of sheet)
Gives (Err Memory) read = Unit {0}
Gives (Err (FieldBeforeMarker n)) read = read ≡ Err (FieldBeforeMarker n)
Gives (Err (EmptyMarker n)) read = read ≡ Err (EmptyMarker n)
Gives (Err (BadStyleType n)) read = read ≡ Err (BadStyleType n)
