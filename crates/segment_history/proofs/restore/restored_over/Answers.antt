use Rattle.std.proofs.Common.{◌≡◌, List, None, [], ◌∷◌, ◌++◌, arith, refl, ap, subst, ◌∙◌}
use Rattle.usfm_ref.specs.declared.segment.Segment.{Segment}
use Rattle.op_core.specs.Ops.{Operation}
use Rattle.segment_history.specs.Restores.{RestoredParts}
use Rattle.segment_history.specs.Loops.Gathering.{ops_of, HasSegments}
use Rattle.segment_history.specs.Loops.Restoring.{restored_over}
use Rattle.segment_history.specs.Loops.Showing.{left_parts}
use Rattle.segment_history.proofs.Listing.{ops_are}
use Rattle.segment_history.proofs.Restoring.{restored_held}
use Rattle.segment_history.proofs.restore.restored_over.Goals as goal

pub returns : goal.returns
returns c =
    let over = λ (ops : List Operation). restored_over (left_parts ops None) c.args.segment.now c.args.text.now in
    let none : c.new-edits.result.items ≡ [] = cc in
    let has = subst (λ (gs : List Segment). HasSegments c.args.bundle.now gs c.in_ok-gathered.gathered) c.from_ref.ensures.value
    c.in_ok-gathered.ensures.has in
    c.in_ok-push_over.ensures
    ∙ ap (λ (old : List RestoredParts). old ++ over (ops_of c.in_ok-gathered.gathered c.args.segment.now)) none
    ∙ ap over (ops_are c.args.bundle.now (c.args.segment.now ∷ []) c.in_ok-gathered.gathered has 0 c.args.segment.now (omega arith) refl)
    ∙ restored_held c.args.bundle.now c.args.segment.now c.args.text.now
