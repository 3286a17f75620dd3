-- What is kept of bundles that are gathered: a map from ids to operations.
use Rattle.std.specs.Prelude.{◌≡◌, true, List, map, None}
use Rattle.op_core.specs.Ids.{Id}
use Rattle.op_core.specs.Ops.{Operation}
use Rattle.op_core.specs.Sets.{get, differs}
use Rattle.replica_state.specs.declared.fault.ReceiveFault.{ReceiveFault}
use Rattle.replica_state.specs.declared.fault.ReceiveFault.TheVariants.{Memory, Clash}

-- the operations, each under its id
abbrev pub by_id : List Operation → List (Id × Operation)
by_id ops = map (λ o. (o.id, o)) ops

-- An operation is refused with its id where it does not agree with the one that is held under it,
-- and as out of memory only where none is held.
abbrev pub RefusesOne : List Operation → Operation → ReceiveFault → Type 0
RefusesOne held o Memory = get held o.id ≡ None
RefusesOne held o (Clash id) = (id ≡ o.id) × (differs (get held o.id) o ≡ true)
