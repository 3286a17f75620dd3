use Rattle.std.proofs.Common.{◌≡◌, false, take, map}
use Rattle.std.specs.List.{list_any}
use Rattle.usfm_ref.specs.Books.{same_bytes}
use Rattle.op_core.specs.Ops.{own_text}
use Rattle.replica_state.proofs.since.has_text.Given as goal

abbrev pub invariant-loop-op : goal.invariant-loop-op
invariant-loop-op l = list_any (λ o. same_bytes (own_text o) l.text) (map (λ op. op.now) (take l.op-index l.ops)) ≡ false
