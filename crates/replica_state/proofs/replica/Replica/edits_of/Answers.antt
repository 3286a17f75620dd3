use Rattle.std.proofs.Common.{◌≡◌, ◌++◌, ◌∷◌, [], ap, arith, ◌∙◌}
use Rattle.std.proofs.lemmas.List.{length-take-le}
use Rattle.usfm_ref.specs.Segments.{segment}
use Rattle.verse_cut.specs.Fits.{Fits}
use Rattle.op_core.specs.Ids.{Id}
use Rattle.op_core.specs.NextIds.{given_ids}
use Rattle.replica_state.specs.Changes.{ChangeParts, change_view}
use Rattle.replica_state.specs.Edits.{edit_with}
use Rattle.replica_state.proofs.ChangeLists.{holds_at}
use Rattle.replica_state.proofs.Changes.{edit_at, edits_more}
use Rattle.replica_state.proofs.replica.Replica.edits_of.Goals as goal

pub edit_of-requires-clause-fits : goal.edit_of-requires-clause-fits
edit_of-requires-clause-fits c =
    holds_at (λ (p : ChangeParts). Fits c.args.book p.key p.text) c.args.changes.now c.loop-change.change-index c.change-item.result
    c.loop-change-test.true c.change-item.is c.requires.fits

pub loop-change-preserved : goal.loop-change-preserved
loop-change-preserved c =
    let s = c.args.self.now in
    let x = c.change-item.result in
    let g = segment c.args.book x.key in
    let made : c.in_ok-edit.edit ≡ edit_at s c.args.book c.loop-change.number (change_view x) =
    c.in_ok-edit.ensures.op ∙ ap (λ (i : Id). edit_with i g (given_ids s.held g x.ids.items) x.text.now) c.own_id.ensures.id in
    record {
      counted = omega (arith, c.loop-change.invariant.counted);
      made = c.in_ok-push.ensures.items ∙ (λ i. c.loop-change.invariant.made i ++ made i ∷ [])
          ∙ edits_more s c.args.book change_view c.args.first c.loop-change.number c.args.changes.now c.loop-change.change-index x
          c.loop-change-test.true c.change-item.is (length-take-le c.loop-change.change-index c.args.changes.now (omega arith))
          c.loop-change.invariant.counted;
    }
