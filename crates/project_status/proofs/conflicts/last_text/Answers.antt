use Rattle.std.proofs.Common.{sym, ◌∙◌}
use Rattle.project_status.proofs.OtherTexts.{last_text}
use Rattle.project_status.proofs.conflicts.last_text.Goals as goal

pub loop-op-preserved : goal.loop-op-preserved
loop-op-preserved c =
    c.as_bytes-text.ensures.value ∙ c.text_or_empty.ensures
    ∙ sym (last_text (λ op. op.now) c.args.ops.now c.loop-op.op-index c.op-item.result c.loop-op-test.true c.op-item.is)
