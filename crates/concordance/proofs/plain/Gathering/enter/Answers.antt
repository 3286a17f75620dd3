use Rattle.std.proofs.Common.{◌∙◌, ◌++◌, ◌∷◌, [], None, Some, ap, sym, subst, reverse}
use Rattle.std.proofs.lemmas.List.{reverse-append}
use Rattle.std.specs.Option.{option_map}
use Rattle.usfm_token.specs.View.{mark_parts}
use Rattle.usfm_tree.specs.StepViews.{IsStyled, entry_before}
use Rattle.concordance.specs.Loops.Gathered.{attributes_may_end, enclosed, gathered, innermost}
use Rattle.concordance.specs.Loops.LeafViews.{passages_view, mark_before, waiting_of, enclosures}
use Rattle.concordance.specs.Loops.LeafViews.{leaves_with}
use Rattle.concordance.proofs.Gathers.{leaves_after, milestone_taken}
use Rattle.concordance.proofs.plain.Gathering.enter.Goals as goal

pub returns-in_ok-push-in-Begin : goal.returns-in_ok-push-in-Begin
returns-in_ok-push-in-Begin c =
    λ sheet later styled.
    (let old = c.args.self.now in
    let es = enclosures old in
    let kept = c.in_ok-settle.ensures in
    let kind = c.in-Begin.kind in
    let m = mark_parts c.in-Begin.mark in
    let may_end = c.attributes_may_end.ensures ∙ ap (attributes_may_end c.innermost-innermost.result) c.in-Begin.is in
    let own = (subst (IsStyled sheet) c.in-Begin.is styled).0 in
    let node =
    c.enclosed.ensures sheet m own ∙ ap (λ e. enclosed sheet e kind m) c.innermost-innermost.ensures in
    let around =
    ap reverse c.in_ok-push-in-Begin.ensures.items ∙ reverse-append c.settle.new.self.around.items (c.enclosed.result ∷ [])
    ∙ (λ i. node i ∷ kept.around i) in
    leaves_after (passages_view old.leaves.items) (passages_view c.settle.new.self.leaves.items) c.attributes_may_end.result
    (waiting_of old) _ (gathered sheet (enclosed sheet (innermost es) kind m ∷ es) (Some m) None later) kept.leaves
    (λ i. gathered sheet (around i) (Some m) (kept.waiting i) later)
    ∙ ap (λ x. passages_view old.leaves.items
    ++ Rattle.concordance.specs.Loops.Gathered.settled x (waiting_of old)
    (gathered sheet (enclosed sheet (innermost es) kind m ∷ es) (Some m) None later)) may_end
    ∙ ap (λ e. leaves_with sheet old (entry_before e later)) (sym c.in-Begin.is))

pub returns-in-Milestone : goal.returns-in-Milestone
returns-in-Milestone c =
    λ sheet later styled.
    (let old = c.args.self.now in
    let es = enclosures old in
    let kept = c.in_ok-settle.ensures in
    let m = mark_parts c.in-Milestone.mark in
    let t = option_map (λ x. x.1.now) c.in-Milestone.text in
    let close = option_map mark_parts c.in-Milestone.close in
    let after = Rattle.concordance.specs.Loops.Gathered.milestone_end m t close in
    let may_end = c.attributes_may_end.ensures ∙ ap (attributes_may_end c.innermost-innermost.result) c.in-Milestone.is in
    leaves_after (passages_view old.leaves.items) (passages_view c.settle.new.self.leaves.items) c.attributes_may_end.result
    (waiting_of old) _ (gathered sheet es after None later) kept.leaves
    (λ i. gathered sheet (kept.around i) (c.milestone_end-self.ensures i) (kept.waiting i) later)
    ∙ ap (λ x. passages_view old.leaves.items
    ++ Rattle.concordance.specs.Loops.Gathered.settled x (waiting_of old) (gathered sheet es after None later)) may_end
    ∙ ap (λ l. passages_view old.leaves.items ++ l)
    (sym (milestone_taken sheet es (mark_before old) (waiting_of old) m c.in-Milestone.text close later))
    ∙ ap (λ e. leaves_with sheet old (entry_before e later)) (sym c.in-Milestone.is))
