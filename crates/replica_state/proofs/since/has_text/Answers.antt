use Rattle.std.proofs.Common.{sym, ◌∙◌}
use Rattle.usfm_ref.specs.Books.{same_bytes}
use Rattle.op_core.specs.Ops.{own_text}
use Rattle.replica_state.proofs.SinceTexts.{one_passes}
use Rattle.replica_state.proofs.since.has_text.Goals as goal

pub returns-then-is_text : goal.returns-then-is_text
returns-then-is_text c =
    sym (one_passes (λ op. op.now) c.args.ops.now c.loop-op.op-index c.op-item.result c.loop-op-test.true c.op-item.is
    (λ o. same_bytes (own_text o) c.args.text.now) (sym c.is_text.ensures ∙ c.if-is_text.true))
