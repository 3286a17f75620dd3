-- Commands one after another.
use Rattle.std.specs.Prelude.{List, [], ◌∷◌, IsOk}
use Rattle.replica_state.specs.States.{State}
use Rattle.replica_state.specs.Steps.{Command, Reply, Received, Edited, Imported, Thinned, step}

-- what a replica is after commands, in their order
abbrev pub after_all : State → List Command → State
after_all s [] = s
after_all s (c ∷ later) = after_all (step s c).after later

-- the reply is no refusal
abbrev pub IsTaken : Reply → Type 0
IsTaken (Received answer) = IsOk answer
IsTaken (Edited answer) = IsOk answer
IsTaken (Imported answer) = IsOk answer
IsTaken (Thinned count) = Unit {0}

-- no command of a run is refused
abbrev pub NoneRefused : State → List Command → Type 0
NoneRefused s [] = Unit {0}
NoneRefused s (c ∷ later) = IsTaken (step s c).reply × NoneRefused (step s c).after later
