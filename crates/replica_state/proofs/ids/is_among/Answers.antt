use Rattle.std.proofs.Common.{sym, ◌∙◌, arith}
use Rattle.op_core.proofs.IdOrders.IdLists.{holds_at, holds_end}
use Rattle.replica_state.proofs.ids.is_among.Goals as goal

pub returns-then-eq : goal.returns-then-eq
returns-then-eq c = sym c.if-eq.true
    ∙ holds_at c.args.id c.args.ids.now c.place_id-at.result c.index-ids-at.result c.eq.result c.requires.rising
    c.place_id-at.ensures.place c.if-at-ids.true c.index-ids-at.is c.eq.ensures

pub returns-else-eq : goal.returns-else-eq
returns-else-eq c = sym c.if-eq.false
    ∙ holds_at c.args.id c.args.ids.now c.place_id-at.result c.index-ids-at.result c.eq.result c.requires.rising
    c.place_id-at.ensures.place (omega arith) c.index-ids-at.is c.eq.ensures

pub returns-else-at-ids : goal.returns-else-at-ids
returns-else-at-ids c =
    holds_end c.args.id c.args.ids.now c.place_id-at.result c.requires.rising c.place_id-at.ensures.place (omega arith)
