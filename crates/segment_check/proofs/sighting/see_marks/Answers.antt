use Rattle.std.proofs.Common.{◌≡◌, ◌∙◌, List, [], Option, ap, sym, subst, refl, length, arith}
use Rattle.std.specs.Prelude.{IfSome}
use Rattle.sty_sheet.specs.Records.{Record}
use Rattle.sty_sheet.specs.Views.{records_of}
use Rattle.usfm_tree.specs.Reading.{tree_of}
use Rattle.usfm_tree.specs.SheetViews.{styles_of}
use Rattle.usfm_tree.specs.StepViews.{IsNext, IsStyled, step_before}
use Rattle.usfm_tree.specs.WalkViews.{events_ahead, records_by}
use Rattle.usfm_tree.specs.declared.step.Step.{Step}
use Rattle.usfm_tree.proofs.StepLemmas.{step_shorter}
use Rattle.segment_check.specs.Loops.Sightings.{levels, seen_after, seen_with}
use Rattle.segment_check.proofs.TreeLemmas.{forest_seen, ends_seen}
use Rattle.segment_check.proofs.sighting.see_marks.Goals.{In-Some}
use Rattle.segment_check.proofs.sighting.see_marks.Goals as goal

-- the step is the first of what is left
next_is : (c : In-Some) → events_ahead c.loop-walk.walk ≡ step_before c.in-Some.step (events_ahead c.next_step.new.self)
next_is c =
    let F : Option Step → Type 0 = λ o. IsNext (events_ahead c.loop-walk.walk) o (events_ahead c.next_step.new.self) in
    subst F c.in-Some.is c.in_ok-step.ensures.next

pub loop-walk-init : goal.loop-walk-init
loop-walk-init c =
    let sheet = records_of c.args.sheet.now in
    record {
      records = c.new-walk.ensures.records;
      seen =
          (λ i. seen_after sheet (c.new.ensures.items i) (levels (c.new-2.ensures.items i)) (c.new-walk.ensures.events i))
          ∙ forest_seen sheet [] [] [] (tree_of (styles_of c.args.sheet.now) c.args.text.now) [] refl;
    }

pub take-requires : goal.take-requires
take-requires c =
    let step = c.in-Some.step in
    let F : Option Step → Type 0 = λ o. IfSome o (λ s. IsStyled (records_by c.loop-walk.walk) s.entry) in
    let G : List Record → Type 0 = λ rs. IsStyled rs step.entry in
    subst G c.loop-walk.invariant.records (subst F c.in-Some.is c.in_ok-step.ensures.style)

pub loop-walk-smaller : goal.loop-walk-smaller
loop-walk-smaller c =
    let later = events_ahead c.next_step.new.self in
    let shorter = step_shorter c.in-Some.step.ended c.in-Some.step.entry later in
    let same = ap length (next_is (goal.at.loop-walk-smaller c).In-Some) in omega arith

pub loop-walk-preserved : goal.loop-walk-preserved
loop-walk-preserved c =
    let d = (goal.at.loop-walk-preserved c).In-Some in
    let sheet = records_of c.args.sheet.now in
    record {
      records = c.in_ok-step.ensures.records ∙ c.loop-walk.invariant.records;
      seen =
          c.in_ok-take.ensures (events_ahead c.next_step.new.self)
          ∙ ap (seen_with sheet c.loop-walk.sighting) (sym (next_is d)) ∙ c.loop-walk.invariant.seen;
    }

pub returns : goal.returns
returns c =
    let sheet = records_of c.args.sheet.now in
    let w = c.loop-walk.sighting in
    let F : Option Step → Type 0 = λ o. IsNext (events_ahead c.loop-walk.walk) o (events_ahead c.next_step.new.self) in
    let end = subst F c.in_default.is c.in_ok-step.ensures.next in
    sym (ends_seen sheet end.0 w.seen.items (levels w.open_nodes.items) [])
    ∙ ap (seen_with sheet w) (sym end.1) ∙ c.loop-walk.invariant.seen
