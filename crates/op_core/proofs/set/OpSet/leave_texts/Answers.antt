use Rattle.std.proofs.Common.{List, ap, sym, ◌∙◌, take, take_all}
use Rattle.op_core.specs.Ids.{Id}
use Rattle.op_core.specs.NextIds.{is_among}
use Rattle.op_core.specs.Thinned.{thin_where}
use Rattle.op_core.proofs.Indexed.Enrolled.{more_items}
use Rattle.op_core.proofs.ThinnedSets.Left.{past_on, among_at, where_more, where_never}
use Rattle.op_core.proofs.set.OpSet.leave_texts.Goals as goal

pub thin_id-requires : goal.thin_id-requires
thin_id-requires c =
    let ids = c.args.ids.now in
    let named = among_at ids c.loop-id.id-index c.id-item.result c.loop-id-test.true c.id-item.is in
    record {
      past = past_on (is_among (take c.loop-id.id-index ids))
          (is_among ids) c.args.self.now c.loop-id.self c.id-item.result c.loop-id.invariant c.requires.past named;
    }

pub loop-id-init : goal.loop-id-init
loop-id-init c = sym (where_never c.args.self.now)

pub loop-id-preserved : goal.loop-id-preserved
loop-id-preserved c =
    c.thin_id.ensures.thin
    ∙ where_more (take c.loop-id.id-index c.args.ids.now) c.id-item.result c.args.self.now c.loop-id.self c.loop-id.invariant
    ∙ ap (λ (ids : List Id). thin_where (is_among ids) c.args.self.now)
    (sym (more_items c.args.ids.now c.loop-id.id-index c.id-item.result c.loop-id-test.true c.id-item.is))

pub returns : goal.returns
returns c =
    c.loop-id.invariant
    ∙ ap (λ (ids : List Id). thin_where (is_among ids) c.args.self.now) (take_all c.loop-id.id-index c.args.ids.now c.loop-id-test.false)
