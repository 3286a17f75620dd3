-- The records of a sheet's text, or the fault of its first faulty line.
--
-- Paratext's `usfm.sty` has records begun by Marker. The faults, and that a second record of a
-- marker replaces the first and keeps its place, are this project's own rule.
use Rattle.std.specs.Prelude.{ℕ, ◌+◌, Bool, false, ◌||◌, not, List, [], ◌∷◌, filter, take_while, Option, None, Some, if◌then◌else◌, codes, Result, Ok, Err}
use Rattle.std.specs.Option.{option_or, unwrap_or}
use Rattle.std.specs.Str.{bytes_eq}
use Rattle.sty_sheet.specs.Lines.{first_word}
use Rattle.sty_sheet.specs.Fields.{Field, passed, marker, occurs_under, endmarker, name, style_type, text_type, is_word, kind_named, fields_of, as_name, as_endmarker, as_occurs_under, as_style_type, as_text_type, is_marker}
use Rattle.sty_sheet.specs.Records.{Record, words_of, closing_name}
use Rattle.sty_sheet.specs.declared.fault.SheetFault.{SheetFault}
use Rattle.sty_sheet.specs.declared.fault.SheetFault.TheVariants.{FieldBeforeMarker, EmptyMarker, BadStyleType}

-- ---- faults

-- the fault of a field that is read where no marker line was seen before it
abbrev pub misplaced : Bool → ℕ → Option SheetFault
misplaced seen n = if seen then None else Some (FieldBeforeMarker n)

-- the fault of a StyleType in line n, if its value names no style type
abbrev pub kind_fault : ℕ → List ℕ → Option SheetFault
kind_fault n value = elim (kind_named value) [ None ↦ Some (BadStyleType n) | Some kind ↦ None ]

-- the fault of the field in line n, where a marker line was seen before it or none was
abbrev pub field_fault : Bool → ℕ → Field → Option SheetFault
field_fault seen n passed = None
field_fault seen n (marker value) = if bytes_eq value [] then Some (EmptyMarker n) else None
field_fault seen n (occurs_under value) = misplaced seen n
field_fault seen n (endmarker value) = misplaced seen n
field_fault seen n (name value) = misplaced seen n
field_fault seen n (style_type value) = option_or (misplaced seen n) (kind_fault n value)
field_fault seen n (text_type value) = misplaced seen n

-- the first fault of fields, if there is one, where lines are counted from n on and a marker line
-- was seen before or none was: a field before the first marker, a marker without a name, or an
-- unknown style type
abbrev pub first_fault : Bool → ℕ → List Field → Option SheetFault
first_fault seen n [] = None
first_fault seen n (f ∷ fs) =
    option_or (field_fault seen n f) (first_fault (seen || is_marker f) (n + 1) fs)

-- ---- records

-- the last value that a field of one name has, as read finds it
abbrev pub latest : (Field → Option (List ℕ)) → List Field → Option (List ℕ)
latest read [] = None
latest read (f ∷ fs) = option_or (latest read fs) (read f)

-- the last value that a field of one name has, or the empty text
abbrev pub value_of : (Field → Option (List ℕ)) → List Field → List ℕ
value_of read fs = unwrap_or (latest read fs) []

-- the record of a marker with these fields: of each name the last field counts
abbrev pub record_with : List ℕ → List Field → Record
record_with m fs = record {
  marker = m;
  name = value_of as_name fs;
  closer = closing_name (value_of as_endmarker fs);
  under = words_of (value_of as_occurs_under fs);
  kind = kind_named (value_of as_style_type fs);
  verse_text = is_word (codes "VerseText") (value_of as_text_type fs);
}

-- the fields up to the next marker line
abbrev pub own_fields : List Field → List Field
own_fields fs = take_while (λ f. not (is_marker f)) fs

-- one record for each marker line, with the first word of its value as the marker
abbrev pub all_records : List Field → List Record
all_records [] = []
all_records (marker value ∷ fs) = record_with (first_word value) (own_fields fs) ∷ all_records fs
all_records (other ∷ fs) = all_records fs

-- whether a record is of the marker
abbrev pub of_marker : List ℕ → Record → Bool
of_marker m r = bytes_eq m r.marker

-- the last record of r's marker, r itself if no other has it
abbrev pub last_record : Record → List Record → Record
last_record r [] = r
last_record r (q ∷ qs) = last_record (if of_marker r.marker q then q else r) qs

-- each marker once, where it first comes, with its last record
abbrev pub each_once : List Record → List Record
each_once [] = []
each_once (r ∷ rs) = last_record r rs ∷ filter (λ q. not (of_marker r.marker q)) (each_once rs)

-- the fault, if there is one, and else the records of these fields, each marker once
abbrev pub sheet_with : Option SheetFault → List Field → Result (List Record) SheetFault
sheet_with (Some fault) fs = Err fault
sheet_with None fs = Ok (each_once (all_records fs))

-- the records of a sheet, or the fault of its first faulty line
unfoldable pub sheet_of : List ℕ → Result (List Record) SheetFault
sheet_of text = sheet_with (first_fault false 1 (fields_of text)) (fields_of text)
