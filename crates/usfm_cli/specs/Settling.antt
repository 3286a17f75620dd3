-- What is asked of a project's conflicts (this project's own rule).
use Rattle.std.specs.Prelude.{◌≡◌, ℕ, true, false, List, [], length, Option, None, Result, Ok, Err}
use Rattle.usfm_ref.specs.declared.segment.Segment.{Segment}
use Rattle.op_core.specs.Ops.{Operation}
use Rattle.conflict_settling.specs.Asked.{AskedParts, Asks}
use Rattle.conflict_settling.specs.Pending.{open_conflicts}
use Rattle.conflict_settling.specs.Wanted.{has_books}
use Rattle.conflict_settling.specs.declared.question.Manner.{Manner}
use Rattle.conflict_settling.specs.declared.wanted.Wanted.{Wanted}
use Rattle.command_faults.specs.declared.fault.Fault.{Fault}
use Rattle.command_faults.specs.declared.fault.Fault.TheVariants.{Memory, NoBook}

-- What is answered of a project that holds these operations: the next question; or that a book has
-- no operation. Out of memory is answered in the place of that only where something is held, since
-- it is copied first.
abbrev pub AsksOf : List Operation → List Wanted → Option Segment → Manner
    → Result (Option AskedParts) Fault → Type 0
AsksOf held wanted passed manner (Ok asked) = Asks held wanted passed manner (Ok asked)
AsksOf held wanted passed manner (Err NoBook) = has_books held wanted ≡ false
AsksOf held wanted passed manner (Err Memory) = held ≡ [] → has_books held wanted ≡ true
AsksOf held wanted passed manner (Err fault) = ⊥

-- what is answered of how many conflicts are open: how many there are; or out of memory, and
-- nothing else
abbrev pub CountsOpen : List Operation → List Wanted → Result ℕ Fault → Type 0
CountsOpen held wanted (Ok count) = count ≡ length (open_conflicts held wanted None)
CountsOpen held wanted (Err fault) = fault ≡ Memory
