-- A book of a set of operations, and where it has texts (this project's own rule).
use Rattle.std.specs.Prelude.{ℕ, List, filter}
use Rattle.usfm_ref.specs.Keys.{KeyParts}
use Rattle.op_core.specs.Ops.{Operation}
use Rattle.op_core.specs.Export.{exported_keys}
use Rattle.conflict_settling.specs.Before.{is_filled}

-- a set of operations, and one of its books
pub record HeldBook : Type 0 where
  pub held : List Operation
  pub book : List ℕ

-- a book of a set
abbrev pub held_book : List Operation → List ℕ → HeldBook
held_book held book = record { held = held; book = book }

-- the keys at which the book has a text that is not empty, rising
abbrev pub filled_keys : List Operation → List ℕ → List KeyParts
filled_keys held book = filter (is_filled held book) (exported_keys held book)
