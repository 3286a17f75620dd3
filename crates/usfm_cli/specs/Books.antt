-- That a book which is folded from a stream, or exported, cuts back into the picked texts.
use Rattle.std.specs.Prelude.{◌≡◌, ℕ, List, [], Option, Ok}
use Rattle.std.specs.Io.KnownBytes.{Consumes, Appends}
use Rattle.op_core.specs.Ops.{Operation}
use Rattle.usfm_export.specs.Books.{IsBookOf}
use Rattle.bundle_codec.specs.Reading.{AreBytes}
use Rattle.sty_sheet.specs.Records.{Record}
use Rattle.usfm_tree.specs.Forest.{bytes_of}
use Rattle.usfm_tree.specs.Reading.{tree_of}
use Rattle.usfm_tree.specs.SheetViews.{styles_in}
use Rattle.replica_state.specs.States.{State}
use Rattle.project_file.specs.Projects.{project_at}
use Rattle.usfm_cli.specs.Projects.{executed}
use Rattle.usfm_cli.specs.ExecLaws.{output_of}
use Rattle.usfm_cli.specs.Streams.{union_in, book_of_stream}
use Rattle.usfm_cli.specs.declared.command.Command.TheVariants.{Export}

-- the sink took the export of a book of the union of bundles, which cuts back into the picked texts
pub record WritesUnion (book input : List ℕ) (before after : Option (List ℕ)) : Type 0 where
  pub union : List Operation
  pub union_is : union_in [] input ≡ Ok union
  pub text : List ℕ
  pub written : Appends before after text
  pub is_book : IsBookOf union book text

-- the source gave bundles, and the sink took the export of a book of their union
pub record WritesBook (book : List ℕ) (to_come left : Option (List ℕ))
    (before after : Option (List ℕ)) : Type 0 where
  pub given : List ℕ
  pub consumed : Consumes to_come left given
  pub written : WritesUnion book given before after

-- What a stream gives for a book is the export of that book of the union of its bundles, which cuts
-- back into the picked texts.
abbrev pub FoldedBooksCutBack : Type 0
FoldedBooksCutBack =
    (book input text : List ℕ) → AreBytes input → book_of_stream book input ≡ Ok text →
    (union : List Operation) × (union_in [] input ≡ Ok union) × IsBookOf union book text

-- a text is a book of a set, and the leaves of its tree, by the records of any style sheet, join to
-- it
pub record IsWholeBook (held : List Operation) (book text : List ℕ) : Type 0 where
  pub is_book : IsBookOf held book text
  pub leaves : (records : List Record) → bytes_of (tree_of (styles_in records) text) ≡ text

-- What `export` writes of a project's file is the export of the book of the replica that the file
-- is that of: it is UTF-8 and cuts back into the picked texts, and the leaves of its tree join to
-- it.
abbrev pub ExportedBooksCutBack : Type 0
ExportedBooksCutBack =
    (file book text : List ℕ) → AreBytes file →
    output_of (executed file (Export book)) ≡ Ok text →
    (s : State) × (project_at file ≡ Ok s) × IsWholeBook s.held book text
