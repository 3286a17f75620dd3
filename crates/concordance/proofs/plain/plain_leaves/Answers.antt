use Rattle.std.proofs.Common.{◌≡◌, ◌∙◌, ◌++◌, [], None, Option, ap, sym, subst, reverse, length}
use Rattle.std.proofs.Common.{arith, List}
use Rattle.std.specs.Prelude.{IfSome}
use Rattle.sty_sheet.specs.Records.{Record}
use Rattle.sty_sheet.specs.Views.{records_of}
use Rattle.usfm_tree.specs.Forest.{bytes_of}
use Rattle.usfm_tree.specs.Reading.{tree_of}
use Rattle.usfm_tree.specs.SheetViews.{styles_of}
use Rattle.usfm_tree.specs.StepViews.{IsNext, IsStyled, entry_before, step_before}
use Rattle.usfm_tree.specs.WalkViews.{events_ahead, records_by}
use Rattle.usfm_tree.specs.declared.step.Step.{Step}
use Rattle.usfm_tree.proofs.LeavesLemmas.{tree_bytes}
use Rattle.usfm_tree.proofs.PlaceLemmas.{tree_runs}
use Rattle.concordance.specs.Loops.Gathered.{gathered, EventsFit}
use Rattle.concordance.specs.Plain.{plain_leaves}
use Rattle.concordance.specs.Loops.LeafViews.{passages_view, mark_before, waiting_of, enclosures}
use Rattle.concordance.specs.Loops.LeafViews.{leaves_with}
use Rattle.concordance.proofs.Gathers.{whole, all_end, events_fit, fit_after_ends, entry_fits}
use Rattle.usfm_tree.proofs.StepLemmas.{step_shorter}
use Rattle.concordance.proofs.Gathers.{fit_after}
use Rattle.concordance.proofs.Sites.{sites_read, texts_fit}
use Rattle.concordance.proofs.plain.plain_leaves.Goals.{In-Some}
use Rattle.concordance.proofs.plain.plain_leaves.Goals as goal

-- the step is the first of what is left
next_is : (c : In-Some) → events_ahead c.loop-walk.walk ≡ step_before c.in-Some.step (events_ahead c.next_step.new.self)
next_is c =
    let F : Option Step → Type 0 = λ o. IsNext (events_ahead c.loop-walk.walk) o (events_ahead c.next_step.new.self) in
    subst F c.in-Some.is c.in_ok-step.ensures.next

fit_here : (c : In-Some) → EventsFit (entry_before c.in-Some.step.entry (events_ahead c.next_step.new.self))
fit_here c = fit_after_ends c.in-Some.step.ended _ (subst EventsFit (next_is c) c.loop-walk.invariant.fit)

pub loop-walk-init : goal.loop-walk-init
loop-walk-init c =
    let text = c.args.text.now in
    let sheet = records_of c.args.sheet.now in
    let S = styles_of c.args.sheet.now in
    let tree = tree_of S text in
    record {
      fit =
          subst EventsFit (sym c.new-walk.ensures.events)
          (events_fit tree (texts_fit 0 tree (tree_runs S text)
          (let e : length (bytes_of tree) ≡ length text = ap length (tree_bytes S text) in omega arith)));
      records = c.new-walk.ensures.records;
      leaves =
          (λ i. passages_view (c.new.ensures.items i)
          ++ gathered sheet (reverse (c.new-2.ensures.items i)) None None (c.new-walk.ensures.events i))
          ∙ whole sheet None tree;
    }

pub take-requires : goal.take-requires
take-requires c = entry_fits c.in-Some.step.entry _ (fit_here (goal.at.take-requires c).In-Some)

pub loop-walk-smaller : goal.loop-walk-smaller
loop-walk-smaller c =
    let later = events_ahead c.next_step.new.self in
    let shorter = step_shorter c.in-Some.step.ended c.in-Some.step.entry later in
    let same = ap length (next_is (goal.at.loop-walk-smaller c).In-Some) in omega arith

pub loop-walk-preserved : goal.loop-walk-preserved
loop-walk-preserved c =
    let d = (goal.at.loop-walk-preserved c).In-Some in
    let sheet = records_of c.args.sheet.now in
    let later = events_ahead c.next_step.new.self in
    let step = c.in-Some.step in
    let F : Option Step → Type 0 = λ o. IfSome o (λ s. IsStyled (records_by c.loop-walk.walk) s.entry) in
    let G : List Record → Type 0 = λ rs. IsStyled rs step.entry in
    let styled = subst G c.loop-walk.invariant.records (subst F c.in-Some.is c.in_ok-step.ensures.style) in
    record {
      fit = fit_after step.entry later (fit_here d);
      records = c.in_ok-step.ensures.records ∙ c.loop-walk.invariant.records;
      leaves =
          c.in_ok-take.ensures sheet later styled
          ∙ ap (leaves_with sheet c.loop-walk.gathering) (sym (next_is d)) ∙ c.loop-walk.invariant.leaves;
    }

pub returns : goal.returns
unfolding plain_leaves
returns c =
    let sheet = records_of c.args.sheet.now in
    let g = c.loop-walk.gathering in
    let F : Option Step → Type 0 = λ o. IsNext (events_ahead c.loop-walk.walk) o (events_ahead c.next_step.new.self) in
    let end = subst F c.in_default.is c.in_ok-step.ensures.next in
    c.in_ok-settle.ensures.leaves
    ∙ ap (λ l. passages_view g.leaves.items ++ l) (sym (all_end sheet end.0 (enclosures g) (mark_before g) (waiting_of g)))
    ∙ ap (leaves_with sheet g) (sym end.1) ∙ c.loop-walk.invariant.leaves
    ∙ sym (sites_read sheet [] None (tree_of (styles_of c.args.sheet.now) c.args.text.now))
