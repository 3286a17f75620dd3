-- Where memory may be taken before a sheet is refused (this project's own rule): a record is kept
-- when the next one begins.
use Rattle.std.specs.Prelude.{ℕ, ◌+◌, nat_le, Bool, true, false, ◌||◌, List, [], ◌∷◌, length, if◌then◌else◌, Result, Ok, Err}
use Rattle.std.specs.Option.{is_some}
use Rattle.sty_sheet.specs.Fields.{Field, fields_of, is_marker}
use Rattle.sty_sheet.specs.Records.{Record}
use Rattle.sty_sheet.specs.Sheets.{field_fault, all_records, sheet_of}
use Rattle.sty_sheet.specs.declared.fault.SheetFault.{SheetFault}
use Rattle.sty_sheet.specs.declared.fault.SheetFault.TheVariants.{FieldBeforeMarker}

-- the fields before the first faulty one, where lines are counted from n on and a marker line was
-- seen before or none was
abbrev pub before_fault : Bool → ℕ → List Field → List Field
before_fault seen n [] = []
before_fault seen n (f ∷ fs) =
    if is_some (field_fault seen n f) then []
    else f ∷ before_fault (seen || is_marker f) (n + 1) fs

-- how many records begin before the first faulty line of a sheet
abbrev pub begun_before_fault : List ℕ → ℕ
begun_before_fault text = length (all_records (before_fault false 1 (fields_of text)))

-- Whether memory may be taken before this is answered, where this many records begin before the
-- first faulty line: of a right sheet; and of a faulty one where two begin, as the first is kept
-- then. None begins before a field that is misplaced.
abbrev pub may_take : ℕ → Result (List Record) SheetFault → Bool
may_take begun (Ok records) = true
may_take begun (Err (FieldBeforeMarker n)) = false
may_take begun (Err fault) = nat_le 2 begun

-- whether memory may be taken to read a sheet, or to find its fault
unfoldable pub takes_memory : List ℕ → Bool
takes_memory text = may_take (begun_before_fault text) (sheet_of text)
