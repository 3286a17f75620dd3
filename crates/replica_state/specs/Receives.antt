-- Taking in a bundle: the join of two states (Shapiro, Preguiça, Baquero and Zawirski, INRIA
-- RR-7506).
use Rattle.std.specs.Prelude.{◌≡◌, List, [], ◌∷◌, filter, is_none, Option, Some, if◌then◌else◌}
use Rattle.op_core.specs.Ids.{Id}
use Rattle.op_core.specs.Ops.{Operation}
use Rattle.op_core.specs.Sets.{get, differs}
use Rattle.replica_state.specs.declared.fault.ReceiveFault.{ReceiveFault}
use Rattle.replica_state.specs.declared.fault.ReceiveFault.TheVariants.{Memory, Clash}

-- the operations of a bundle whose ids a set lacks
abbrev pub lacked : List Operation → List Operation → List Operation
lacked held bundle = filter (λ o. is_none (get held o.id)) bundle

-- the operations of a bundle before the first that does not agree with the one that is held under
-- its id
abbrev pub before_clash : List Operation → List Operation → List Operation
before_clash held [] = []
before_clash held (o ∷ rest) = if differs (get held o.id) o then [] else o ∷ before_clash held rest

-- a refusal is out of memory, or the clash that there is
abbrev pub RefusesReceive : Option Id → ReceiveFault → Type 0
RefusesReceive found Memory = Unit {0}
RefusesReceive found (Clash id) = found ≡ Some id
