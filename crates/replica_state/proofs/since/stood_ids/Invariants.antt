use Rattle.std.proofs.Common.{◌≡◌, take, map, filter}
use Rattle.usfm_ref.specs.Books.{same_bytes}
use Rattle.op_core.specs.Ops.{own_text}
use Rattle.op_core.specs.Lists.{ids_of}
use Rattle.replica_state.proofs.since.stood_ids.Given as goal

abbrev pub invariant-loop-op : goal.invariant-loop-op
invariant-loop-op l =
    l.ids.items ≡ ids_of (filter (λ o. same_bytes (own_text o) l.text) (map (λ op. op.now) (take l.op-index l.op-items)))
