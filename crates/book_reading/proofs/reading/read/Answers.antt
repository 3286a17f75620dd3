use Rattle.std.proofs.Common.{◌≡◌, ◌∙◌, [], None, Option, ap, sym, subst, length, append-nil, arith}
use Rattle.usfm_tree.specs.Reading.{tree_of}
use Rattle.usfm_tree.specs.SheetViews.{styles_of}
use Rattle.usfm_tree.specs.StepViews.{IsNext, step_before}
use Rattle.usfm_tree.specs.WalkViews.{events_ahead}
use Rattle.usfm_tree.specs.declared.step.Step.{Step}
use Rattle.usfm_tree.proofs.StepLemmas.{step_shorter}
use Rattle.book_reading.specs.Laws.{joined_runs}
use Rattle.book_reading.specs.Loops.Gathered.{gathered}
use Rattle.book_reading.specs.Loops.GatheringViews.{places, waiting_of, runs_with, reading_with}
use Rattle.book_reading.specs.Readings.{runs_of, reading_of}
use Rattle.book_reading.specs.Views.{runs_view}
use Rattle.book_reading.specs.declared.lead.Lead.TheVariants as leads
use Rattle.book_reading.proofs.Gathers.{whole, all_end}
use Rattle.book_reading.proofs.Joins.{nothing_left_out}
use Rattle.book_reading.proofs.reading.read.Goals.{In-Some, After-drop-gathering-2}
use Rattle.book_reading.proofs.reading.read.Goals as goal

-- the step is the first of what is left
next_is : (c : In-Some) → events_ahead c.loop-walk.walk ≡ step_before c.in-Some.step (events_ahead c.next_step.new.self)
next_is c =
    let F : Option Step → Type 0 = λ o. IsNext (events_ahead c.loop-walk.walk) o (events_ahead c.next_step.new.self) in
    subst F c.in-Some.is c.in_ok-step.ensures.next

pub loop-walk-init : goal.loop-walk-init
unfolding reading_of
loop-walk-init c =
    let styles = styles_of c.args.sheet.now in
    c.new-gathering.ensures styles (events_ahead c.new-walk.result)
    ∙ ap (λ events. runs_of 0 (gathered styles [] leads.Nothing None events)) c.new-walk.ensures.events
    ∙ ap (runs_of 0) (whole styles leads.Nothing None (tree_of styles c.args.text.now))

pub loop-walk-smaller : goal.loop-walk-smaller
loop-walk-smaller c =
    let later = events_ahead c.next_step.new.self in
    let shorter = step_shorter c.in-Some.step.ended c.in-Some.step.entry later in
    let same = ap length (next_is (goal.at.loop-walk-smaller c).In-Some) in omega arith

pub loop-walk-preserved : goal.loop-walk-preserved
loop-walk-preserved c =
    let d = (goal.at.loop-walk-preserved c).In-Some in
    c.in_ok-take.ensures (events_ahead c.next_step.new.self)
    ∙ ap (reading_with (styles_of c.args.sheet.now) c.loop-walk.gathering) (sym (next_is d)) ∙ c.loop-walk.invariant

-- the runs are those of the reading
meets : (c : After-drop-gathering-2)
    → runs_view c.settle.new.self.written.runs.items ≡ reading_of (styles_of c.args.sheet.now) c.args.text.now
meets c =
    let styles = styles_of c.args.sheet.now in
    let old = c.loop-walk.gathering in
    let F : Option Step → Type 0 = λ o. IsNext (events_ahead c.loop-walk.walk) o (events_ahead c.next_step.new.self) in
    let left = subst F c.in_default.is c.in_ok-step.ensures.next in
    sym (append-nil (runs_view c.settle.new.self.written.runs.items))
    ∙ c.in_ok-settle.ensures.runs []
    ∙ ap (runs_with old.written) (sym (all_end styles left.0 (places old) old.lead (waiting_of old)))
    ∙ ap (reading_with styles old) (sym left.1)
    ∙ c.loop-walk.invariant

pub returns-clause-value : goal.returns-clause-value
returns-clause-value c = meets (goal.at.returns-clause-value c).After-drop-gathering-2

pub returns-clause-nothing_is_left_out : goal.returns-clause-nothing_is_left_out
returns-clause-nothing_is_left_out c =
    ap joined_runs (meets (goal.at.returns-clause-nothing_is_left_out c).After-drop-gathering-2)
    ∙ nothing_left_out (styles_of c.args.sheet.now) c.args.text.now
