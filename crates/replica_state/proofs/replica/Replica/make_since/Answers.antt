use Rattle.std.proofs.Common.{sym, ap, subst, ◌∙◌}
use Rattle.std.specs.List.{AllByRecursion}
use Rattle.std.proofs.lemmas.List.{length-map}
use Rattle.usfm_ref.specs.Segments.{segment}
use Rattle.verse_cut.specs.Fits.{Fits}
use Rattle.verse_cut.specs.Views.{pieces_view}
use Rattle.replica_state.specs.Changes.{ChangeParts, change_view, changes_view}
use Rattle.replica_state.specs.Imports.{piece_at}
use Rattle.replica_state.specs.Since.{changed_keys, seen_ids}
use Rattle.replica_state.proofs.ChangeLists.{made_is}
use Rattle.replica_state.proofs.FilePieces.{all_fit}
use Rattle.replica_state.proofs.replica.Replica.make_since.Goals as goal

pub make-requires-clause-fits : goal.make-requires-clause-fits
make-requires-clause-fits c =
    let held = c.args.self.now.held in
    let was = c.args.was.now.held in
    let pieces = pieces_view c.args.pieces.now in
    subst (AllByRecursion (λ (p : ChangeParts). Fits c.args.book p.key p.text))
    (sym (ap changes_view c.deref.ensures.value ∙ c.in_ok-changes.ensures))
    (all_fit c.args.book (piece_at pieces) (λ key. seen_ids held was (segment c.args.book key)) c.requires.fits
    (changed_keys held was c.args.book pieces))

pub returns-clause-step : goal.returns-clause-step
returns-clause-step c = λ _.
    let many = sym (length-map c.deref.result.now change_view) in
    made_is _ c.args.self.now c.args.self.now c.make.new.self c.args.book _ (changes_view c.deref.result.now) c.in-Some.first c.len.result _
    (ap changes_view c.deref.ensures.value ∙ c.in_ok-changes.ensures) c.in-Some.ensures.number
    (c.len.ensures ∙ sym c.deref.ensures.len ∙ many) c.in_ok-make.ensures.ok (c.in_ok-make.ensures.count ∙ many)
