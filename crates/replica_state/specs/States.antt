-- What a replica is: the name that its own operations get, and the set of operations that it holds
-- (Shapiro, Preguiça, Baquero and Zawirski, INRIA RR-7506: the state of a replica).
use Rattle.std.specs.Prelude.{ℕ, List, [], IsTrue}
use Rattle.op_core.specs.Names.{is_name}
use Rattle.op_core.specs.Ops.{Operation}
use Rattle.op_core.specs.Sets.{IsOpSet}
use Rattle.op_core.specs.Thinned.{is_legal}

-- a replica: its name, and the set of operations that it holds
pub record State : Type 0 where
  pub name : List ℕ
  pub held : List Operation

-- the replica of a name that holds nothing
abbrev pub begun : List ℕ → State
begun name = record { name = name; held = [] }

-- a right name, no two operations with one id, and no thinned operation that no held one of its
-- segment names
pub record IsState (s : State) : Type 0 where
  pub name : IsTrue (is_name s.name)
  pub set : IsOpSet s.held
  pub legal : IsTrue (is_legal s.held)
