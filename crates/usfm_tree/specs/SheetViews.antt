-- What the reading of a tree needs of a sheet: the style of each name.
use Rattle.std.specs.Prelude.{List}
use Rattle.std.specs.Option.{option_map}
use Rattle.sty_sheet.specs.Records.{Record, mark_style}
use Rattle.sty_sheet.specs.Views.{records_of}
use Rattle.sty_sheet.specs.declared.sheet.Sheet.{Sheet}
use Rattle.usfm_tree.specs.Reading.{Styles}
use Rattle.usfm_tree.specs.Reading as reading

-- the style of a record: its kind, and the name that closes it
abbrev pub style_view : Record → reading.Style
style_view r = record { kind = r.kind; closer = r.closer }

-- the style of each name by some records: that of the record which a mark of the name has, if it
-- has one
abbrev pub styles_in : List Record → Styles
styles_in rs name = option_map style_view (mark_style rs name)

-- the style of each name by a sheet
abbrev pub styles_of : Sheet → Styles
styles_of sheet = styles_in (records_of sheet)
