use Rattle.std.proofs.Common.{not, sym, ap, ◌∙◌}
use Rattle.op_core.specs.Ids.{Id}
use Rattle.op_core.specs.NextIds.{is_among}
use Rattle.replica_state.proofs.IdWalks.{none_more, first_here}
use Rattle.replica_state.proofs.ids.first_not_among.Goals as goal

pub returns-then-not-is_among : goal.returns-then-not-is_among
returns-then-not-is_among c =
    first_here (λ (id : Id). not (is_among c.args.shown.now id)) c.args.ids.now c.loop-id.id-index c.id-item.result
    c.loop-id-test.true c.id-item.is c.loop-id.invariant (ap not (sym c.is_among.ensures ∙ c.if-not-is_among.true))

pub loop-id-preserved : goal.loop-id-preserved
loop-id-preserved c =
    none_more (λ (id : Id). not (is_among c.args.shown.now id)) c.args.ids.now c.loop-id.id-index c.id-item.result
    c.loop-id-test.true c.id-item.is c.loop-id.invariant (ap not (sym c.is_among.ensures ∙ c.if-not-is_among.false))
