use Rattle.std.proofs.Common.{◌≡◌, false, take, map}
use Rattle.std.specs.List.{list_any}
use Rattle.project_status.specs.Numbers.{has_other_text}
use Rattle.project_status.proofs.conflicts.has_other.Given as goal

abbrev pub invariant-loop-op : goal.invariant-loop-op
invariant-loop-op l = list_any (has_other_text l.text) (map (λ op. op.now) (take l.op-index l.ops)) ≡ false
