use Rattle.std.proofs.Common.{arith, not, sym, ap, ◌∙◌}
use Rattle.std.proofs.lemmas.List.Filters.{FiltersInPlace-more_swap, FiltersInPlace-more_no}
use Rattle.op_core.proofs.ids.sift_ids.Goals.{then-not-has_id, else-not-has_id}
use Rattle.op_core.proofs.ids.sift_ids.Goals as goal

pub loop-i-preserved : goal.loop-i-preserved
loop-i-preserved c =
    let h = c.loop-i.invariant in
    elim c.if-not-has_id.branch [
      | then-not-has_id w ↦ rw (w.ids-is, w.kept-is) (record {
        filters = FiltersInPlace-more_swap {x = c.index.result.now} h.filters (omega arith)
            (ap not (sym c.has_id.ensures.found ∙ w.if-not-has_id.true)) c.index.ensures w.swap.ensures.by_index;
        within = omega (arith, h.within);
        capacity = w.swap.ensures.capacity ∙ h.capacity;
        len = w.swap.ensures.len ∙ h.len;
      })
      | else-not-has_id w ↦ rw (w.ids-is, w.kept-is) (record {
        filters = FiltersInPlace-more_no {x = c.index.result.now} h.filters (omega arith)
            (ap not (sym c.has_id.ensures.found ∙ w.if-not-has_id.false)) c.index.ensures;
        within = omega (arith, h.within);
        capacity = h.capacity;
        len = h.len;
      })
    ]
