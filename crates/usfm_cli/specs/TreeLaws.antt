-- That the leaves of an exported book's tree are the book. Every mark and every text of a USFM text
-- is kept in its tree, whatever the style sheet says of the marks (this project's own rule).
use Rattle.std.specs.Prelude.{◌≡◌, ℕ, List}
use Rattle.sty_sheet.specs.Records.{Record}
use Rattle.op_core.specs.Ops.{Operation}
use Rattle.op_core.specs.Export.{export}
use Rattle.usfm_tree.specs.Forest.{bytes_of}
use Rattle.usfm_tree.specs.Reading.{tree_of}
use Rattle.usfm_tree.specs.SheetViews.{styles_in}

-- The leaves of the tree of an export, by the records of any sheet, join to the export's bytes.
abbrev pub ExportsAreLeaves : Type 0
ExportsAreLeaves = (held : List Operation) (book : List ℕ) (records : List Record) →
    bytes_of (tree_of (styles_in records) (export held book)) ≡ export held book
