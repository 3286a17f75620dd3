-- Replicas of one book (this project's own rule): what a command that looks at one book needs of a
-- replica.
use Rattle.std.specs.Prelude.{ℕ, List}
use Rattle.op_core.specs.OneBook.{ops_for_edit, ops_of_book}
use Rattle.replica_state.specs.States.{State}

-- the replica with the operations of the book alone
abbrev pub of_one_book : State → List ℕ → State
of_one_book s book = record { name = s.name; held = ops_of_book s.held book }

-- the replica with the operations alone that an edit of the book is made from
abbrev pub for_edit : State → List ℕ → State
for_edit s book = record { name = s.name; held = ops_for_edit s.held book }
