use Rattle.std.proofs.Common.{sym, ◌∙◌}
use Rattle.project_status.proofs.OtherTexts.{one_passes}
use Rattle.project_status.specs.Numbers.{has_other_text}
use Rattle.project_status.proofs.conflicts.has_other.Goals as goal

pub returns-then-is_other_text : goal.returns-then-is_other_text
returns-then-is_other_text c =
    sym (one_passes (λ op. op.now) c.args.ops.now c.loop-op.op-index c.op-item.result c.loop-op-test.true c.op-item.is
    (has_other_text c.args.text.now) (sym c.is_other_text.ensures ∙ c.if-is_other_text.true))
