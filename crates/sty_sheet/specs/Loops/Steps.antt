-- What a reader of a sheet has after this many lines: the records that are whole, and the one that
-- it is reading.
use Rattle.std.specs.Prelude.{◌≡◌, ℕ, true, IsSome, List, [], ◌∷◌, Option, None, Some, if◌then◌else◌, codes, Result, Ok, Err}
use Rattle.std.specs.Option.{option_map}
use Rattle.std.specs.Str.{bytes_eq}
use Rattle.sty_sheet.specs.Lines.{first_word}
use Rattle.sty_sheet.specs.Fields.{Field, passed, marker, occurs_under, endmarker, name, style_type, text_type, is_word, kind_named, is_marker}
use Rattle.sty_sheet.specs.Records.{Record, words_of, closing_name}
use Rattle.sty_sheet.specs.Sheets.{record_with}
use Rattle.sty_sheet.specs.Views.{record_of, records_in}
use Rattle.sty_sheet.specs.declared.fault.SheetFault.{SheetFault}
use Rattle.sty_sheet.specs.declared.fault.SheetFault.TheVariants.{Memory, FieldBeforeMarker, EmptyMarker, BadStyleType}
use Rattle.sty_sheet.specs.declared.reader.Reader.{Reader}

-- what a reader has: the records that are whole, and the one that it is reading, if one was begun
pub record Reading : Type 0 where
  pub whole : List Record
  pub begun : Option Record

-- what a reader has, as records
abbrev pub reading_of : Reader → Reading
reading_of r = record { whole = records_in r.records; begun = option_map record_of r.begun }

-- a record with one more field
abbrev pub with_field : Field → Record → Record
with_field passed r = r
with_field (marker value) r = r
with_field (occurs_under value) r = record r { under = words_of value }
with_field (endmarker value) r = record r { closer = closing_name value }
with_field (name value) r = record r { name = value }
with_field (style_type value) r = record r { kind = kind_named value }
with_field (text_type value) r = record r { verse_text = is_word (codes "VerseText") value }

-- a record after the others, or in the place of the one of its marker
abbrev pub put : List Record → Record → List Record
put [] r = r ∷ []
put (q ∷ qs) r = if bytes_eq r.marker q.marker then r ∷ qs else q ∷ put qs r

-- the records with the one that was begun, if one was
abbrev pub put_begun : List Record → Option Record → List Record
put_begun rs None = rs
put_begun rs (Some r) = put rs r

-- all records of a reading: those that are whole, and the one that was begun
abbrev pub finished : Reading → List Record
finished s = put_begun s.whole s.begun

-- a reading with one more field in the record that was begun
abbrev pub extended : Reading → Field → Reading
extended s f = record { whole = s.whole; begun = option_map (with_field f) s.begun }

-- the record that was read is whole, and one of a marker begins
abbrev pub began : List ℕ → Reading → Reading
began m s = record { whole = finished s; begun = Some (record_with m []) }

-- a reading after one more field, which is no fault
abbrev pub after_field : Reading → Field → Reading
after_field s (marker value) = began (first_word value) s
after_field s passed = s
after_field s (occurs_under value) = extended s (occurs_under value)
after_field s (endmarker value) = extended s (endmarker value)
after_field s (name value) = extended s (name value)
after_field s (style_type value) = extended s (style_type value)
after_field s (text_type value) = extended s (text_type value)

-- what a call answers where this fault, or none, is due; out of memory is answered where none is
abbrev pub Tells : Result (Unit {0}) SheetFault → Option SheetFault → Type 0
Tells (Ok done) due = due ≡ None
Tells (Err Memory) due = due ≡ None
Tells (Err (FieldBeforeMarker n)) due = due ≡ Some (FieldBeforeMarker n)
Tells (Err (EmptyMarker n)) due = due ≡ Some (EmptyMarker n)
Tells (Err (BadStyleType n)) due = due ≡ Some (BadStyleType n)

-- a field begins another record, after one that was begun
abbrev pub BeginsAnother : Reader → Field → Type 0
BeginsAnother r f = IsSome r.begun × (is_marker f ≡ true)
