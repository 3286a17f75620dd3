-- The operations of one book: all that its export, and what its segments show, are made of (this
-- project's own rule).
use Rattle.std.specs.Prelude.{ℕ, Bool, ◌==◌, ◌||◌, List, filter}
use Rattle.op_core.specs.Ops.{Operation}
use Rattle.op_core.specs.Export.{of_book}
use Rattle.op_core.specs.NextIds.{greatest_number}

-- the operations whose segment is of the book
abbrev pub ops_of_book : List Operation → List ℕ → List Operation
ops_of_book held book = filter (of_book book) held

-- whether an edit of the book is made from an operation: it is of the book, or has the greatest
-- number of all, on which the edit's number follows
abbrev pub is_for_edit : List Operation → List ℕ → Operation → Bool
is_for_edit held book o = of_book book o || o.id.number == greatest_number held

-- the operations that an edit of the book is made from
abbrev pub ops_for_edit : List Operation → List ℕ → List Operation
ops_for_edit held book = filter (is_for_edit held book) held
