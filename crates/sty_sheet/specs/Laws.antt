-- What holds of all sheets.
use Rattle.std.specs.Prelude.{◌≡◌, ℕ, List, find, reverse, Ok}
use Rattle.sty_sheet.specs.Fields.{fields_of}
use Rattle.sty_sheet.specs.Records.{Record, named}
use Rattle.sty_sheet.specs.Sheets.{all_records, of_marker, sheet_of}

-- the record of a marker is the last that the sheet has of it
abbrev pub LastRecordCounts : Type 0
LastRecordCounts =
    (text : List ℕ) (rs : List Record) (m : List ℕ)
    → sheet_of text ≡ Ok rs
    → named m rs ≡ find (of_marker m) (reverse (all_records (fields_of text)))
