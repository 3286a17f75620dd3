use Rattle.std.proofs.Common.{◌≡◌, take, map}
use Rattle.op_core.specs.Shown.{last, text_if_any}
use Rattle.project_status.proofs.conflicts.last_text.Given as goal

abbrev pub invariant-loop-op : goal.invariant-loop-op
invariant-loop-op l = l.text ≡ text_if_any (last (map (λ op. op.now) (take l.op-index l.ops)))
