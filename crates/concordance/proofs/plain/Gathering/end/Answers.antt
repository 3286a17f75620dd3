use Rattle.std.proofs.Common.{◌≡◌, ◌-◌, ◌∙◌, ◌++◌, false, None, ap, sym, drop, reverse, take}
use Rattle.std.proofs.Common.{length, arith}
use Rattle.concordance.specs.Loops.Gathered.{gathered}
use Rattle.concordance.specs.Loops.LeafViews.{passages_view, mark_before, waiting_of, enclosures}
use Rattle.usfm_tree.proofs.StepLemmas.{reverse_take}
use Rattle.concordance.proofs.Gathers.{some_end, leaves_after}
use Rattle.concordance.proofs.plain.Gathering.end.Goals as goal

pub returns-in_ok-settle : goal.returns-in_ok-settle
returns-in_ok-settle c =
    λ sheet later.
    (let old = c.args.self.now in
    let kept = c.in_ok-settle.ensures in
    let items = c.settle.new.self.around.items in
    let around =
    ap reverse (c.truncate.ensures.items
    ∙ ap (λ k. take k items)
    (let s = c.saturating_sub.ensures in let l = c.len.ensures in let is : c.saturating_sub.result
    ≡ length items - c.args.count = omega arith in is))
    ∙ reverse_take c.args.count items ∙ ap (drop c.args.count) kept.around in
    leaves_after (passages_view old.leaves.items) (passages_view c.settle.new.self.leaves.items) false (waiting_of old) _
    (gathered sheet (drop c.args.count (enclosures old)) (mark_before old) None later) kept.leaves
    (λ i. gathered sheet (around i) (kept.before i) (kept.waiting i) later)
    ∙ ap (λ l. passages_view old.leaves.items ++ l)
    (sym (some_end sheet c.args.count (enclosures old) (mark_before old) (waiting_of old) later (omega arith))))
