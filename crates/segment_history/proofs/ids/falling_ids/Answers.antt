use Rattle.std.proofs.Common.{List, ◌++◌, reverse, arith, ap, ◌∙◌}
use Rattle.std.proofs.lemmas.List.{take_all}
use Rattle.usfm_ref.specs.Rising.{rising}
use Rattle.std.specs.BTreeSet.{contains}
use Rattle.op_core.specs.Ids.{id_cmp}
use Rattle.op_core.specs.Lists.{ids_of}
use Rattle.op_core.specs.Ops.{Operation}
use Rattle.segment_history.specs.Histories.{awaited_in}
use Rattle.segment_history.proofs.Listing.{listed_once, awaited_more}
use Rattle.segment_history.proofs.ids.falling_ids.Goals as goal

pub loop-op-preserved : goal.loop-op-preserved
loop-op-preserved c =
    awaited_more (contains id_cmp c.args.awaited.now) c.args.ops.now c.loop-op.op-index c.op-item.result
    (ids_of c.args.ops.now) c.loop-op.ids.items c.push_awaited.new.ids.items c.loop-op-test.true c.op-item.is
    c.in_ok-push_awaited.ensures c.loop-op.invariant

pub returns : goal.returns
returns c =
    c.reverse.ensures.items
    ∙ ap reverse (listed_once c.loop-op.ids.items c.sort_unstable.new.self.items c.dedup.new.self.items
    c.sort_unstable.ensures.permutation c.sort_unstable.ensures.sorted c.dedup.ensures.filtered
    ∙ ap (rising id_cmp)
    (c.loop-op.invariant
    ∙ ap (λ (os : List Operation). ids_of c.args.ops.now ++ awaited_in os (contains id_cmp c.args.awaited.now))
    (take_all c.loop-op.op-index c.args.ops.now (omega (arith, c.loop-op-test.false)))))
