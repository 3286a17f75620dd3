use Rattle.std.proofs.Common.{arith, not, sym, ap, ◌∙◌}
use Rattle.std.proofs.lemmas.List.Filters.{FiltersInPlace-more_swap, FiltersInPlace-more_no, FiltersInPlace-all}
use Rattle.op_core.specs.Loops.Index.{is_in}
use Rattle.op_core.proofs.IdOrders.IdSets.{filter_rises, filter_members}
use Rattle.op_core.proofs.index.change.remove_held_ids.Goals.{then-not-is_in, else-not-is_in}
use Rattle.op_core.proofs.index.change.remove_held_ids.Goals as goal

pub loop-i-preserved : goal.loop-i-preserved
loop-i-preserved c =
    let h = c.loop-i.invariant in
    elim c.if-not-is_in.branch [
      | then-not-is_in w ↦ rw (w.ids-is, w.kept-is) (record {
        filters = FiltersInPlace-more_swap {x = c.index.result.now} h.filters (omega arith)
            (ap not (sym c.is_in.ensures.found ∙ w.if-not-is_in.true)) c.index.ensures w.swap.ensures.by_index;
        within = omega (arith, h.within);
      })
      | else-not-is_in w ↦ rw (w.ids-is, w.kept-is) (record {
        filters = FiltersInPlace-more_no {x = c.index.result.now} h.filters (omega arith)
            (ap not (sym c.is_in.ensures.found ∙ w.if-not-is_in.false)) c.index.ensures;
        within = omega (arith, h.within);
      })
    ]

pub returns-clause-rising : goal.returns-clause-rising
returns-clause-rising c =
    let whole = c.truncate.ensures.items ∙ FiltersInPlace-all c.loop-i.invariant.filters (omega arith) in
    filter_rises (λ i. not (is_in c.args.held.now c.args.segment.now i)) c.args.ids.now.items c.truncate.new.self.items whole
    c.requires.rising

pub returns-clause-members : goal.returns-clause-members
returns-clause-members c =
    let whole = c.truncate.ensures.items ∙ FiltersInPlace-all c.loop-i.invariant.filters (omega arith) in
    filter_members (λ i. not (is_in c.args.held.now c.args.segment.now i)) c.args.ids.now.items c.truncate.new.self.items
    whole
