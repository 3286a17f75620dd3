use Rattle.std.proofs.Common.{List, ap, subst, ◌∙◌}
use Rattle.usfm_ref.specs.Segments.{segment}
use Rattle.op_core.specs.Ops.{Operation}
use Rattle.conflict_settling.specs.Filled.{HeldBook}
use Rattle.project_page.specs.Parts.{IsConflictOf, conflict_view}
use Rattle.project_page.proofs.Gathered.{conflicts_more}
use Rattle.project_page.proofs.gather.conflicts_between.Goals as goal

pub loop-segment-preserved : goal.loop-segment-preserved
loop-segment-preserved c =
    let g = c.segment-item.result in
    let made = conflict_view c.in_ok-conflict_of.field-0 in
    let turned = c.in_ok-turn_to.ensures.ok in
    let so_far = c.loop-segment.invariant in
    let is = subst (λ (ops : List Operation). IsConflictOf ops g made) so_far.held
    (subst (λ (t : HeldBook). IsConflictOf t.held (segment t.book g.key) made) turned c.in_ok-conflict_of.ensures) in
    let more = conflicts_more c.args.texts.held c.args.segments.now c.loop-segment.segment-index g c.loop-segment.conflicts.items
    c.push.new.self.items c.in_ok-conflict_of.field-0 c.in_ok-push.ensures.items so_far.count c.loop-segment-test.true c.segment-item.is
    so_far.each is in
    record { held = ap (λ (t : HeldBook). t.held) turned ∙ so_far.held; count = more.0; each = more.1 }
