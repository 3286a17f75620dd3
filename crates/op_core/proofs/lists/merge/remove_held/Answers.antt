use Rattle.std.proofs.Common.{arith, ◌∙◌}
use Rattle.std.proofs.lemmas.List.Filters.{FiltersInPlace-more_swap, FiltersInPlace-more_no}
use Rattle.op_core.proofs.Sets.Fresh.{looked_up}
use Rattle.op_core.proofs.lists.merge.remove_held.Goals.{then-is_none, else-is_none}
use Rattle.op_core.proofs.lists.merge.remove_held.Goals as goal

pub loop-i-preserved : goal.loop-i-preserved
loop-i-preserved c =
    let fresh = looked_up c.args.held.now c.index.result.now c.id.result c.find_near.result c.is_none.result c.id.ensures.id
    c.find_near.ensures.found c.is_none.ensures in
    elim c.if-is_none.branch [
      | then-is_none w ↦ rw (w.new-is, w.kept-is) (record {
        filters = FiltersInPlace-more_swap {x = c.index.result.now} c.loop-i.invariant.filters (omega arith)
            (fresh ∙ w.if-is_none.true) c.index.ensures w.swap.ensures.by_index;
        within = omega (arith, c.loop-i.invariant.within);
      })
      | else-is_none w ↦ rw (w.new-is, w.kept-is) (record {
        filters = FiltersInPlace-more_no {x = c.index.result.now} c.loop-i.invariant.filters (omega arith)
            (fresh ∙ w.if-is_none.false) c.index.ensures;
        within = omega (arith, c.loop-i.invariant.within);
      })
    ]
