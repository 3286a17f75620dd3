use Rattle.std.proofs.Common.{ℕ, List, Result, sym, ap, subst, ◌∙◌}
use Rattle.std.specs.List.{AllByRecursion}
use Rattle.std.proofs.lemmas.List.{length-map}
use Rattle.usfm_ref.specs.Keys.{key_cmp}
use Rattle.usfm_ref.specs.Rising.{rises_by}
use Rattle.usfm_ref.specs.Segments.{segment}
use Rattle.verse_cut.specs.Fits.{Fits}
use Rattle.verse_cut.specs.Pieces.{pieces_of}
use Rattle.verse_cut.specs.Views.{pieces_view}
use Rattle.verse_cut.specs.declared.cutter.Piece.{Piece}
use Rattle.verse_cut.specs.declared.fault.BookFault.{BookFault}
use Rattle.op_core.specs.Lists.{shown_ids}
use Rattle.replica_state.specs.Changes.{ChangeParts, change_view, changes_view}
use Rattle.replica_state.specs.Imports.{piece_at, due_keys, due_changes, import_into}
use Rattle.replica_state.specs.Steps.{EditsStep, Imported, imported}
use Rattle.replica_state.specs.declared.fault.ImportFault.{ImportFault}
use Rattle.replica_state.proofs.ChangeLists.{made_is}
use Rattle.replica_state.proofs.FilePieces.{all_fit, all_pieces_fit}
use Rattle.replica_state.proofs.KeyLists.{piece_keys_rise}
use Rattle.replica_state.proofs.replica.Replica.import.Goals as goal

pub due_changes-requires : goal.due_changes-requires
due_changes-requires c = record {
  rising = ap (rises_by key_cmp (λ (p : Piece). p.key)) c.deref.ensures.value ∙ sym (piece_keys_rise c.in_ok-pieces.pieces.items)
      ∙ c.in_ok-pieces.ensures.rise;
}

pub make-requires-clause-fits : goal.make-requires-clause-fits
make-requires-clause-fits c =
    let held = c.args.self.now.held in
    let book = c.in_ok-book.book in
    let pieces = pieces_view c.deref.result.now in
    subst (AllByRecursion (λ (p : ChangeParts). Fits book p.key p.text))
    (sym (ap changes_view c.deref-2.ensures.value ∙ c.in_ok-changes.ensures))
    (all_fit book (piece_at pieces) (λ key. shown_ids held (segment book key))
    (all_pieces_fit book c.args.file.now c.in_ok-book.ensures.value c.deref.result.now
    (ap pieces_view c.deref.ensures.value ∙ c.in_ok-pieces.ensures.value)) (due_keys held book pieces))

pub returns-clause-step : goal.returns-clause-step
returns-clause-step c = λ _.
    let s = c.args.self.now in
    let many = sym (length-map c.deref-2.result.now change_view) in
    ap (λ (r : Result (List ℕ) BookFault). imported s (import_into s (pieces_of c.args.file.now) r)) (sym c.in_ok-book.ensures.value)
    ∙ ap (λ (x : EditsStep ImportFault). record { after = x.after; reply = Imported x.answer })
    (made_is _ s s c.make.new.self c.in_ok-book.book _ (changes_view c.deref-2.result.now) c.in-Some.first c.len.result _
    (ap changes_view c.deref-2.ensures.value ∙ c.in_ok-changes.ensures
    ∙ ap (due_changes s.held c.in_ok-book.book) (ap pieces_view c.deref.ensures.value ∙ c.in_ok-pieces.ensures.value))
    c.in-Some.ensures.number (c.len.ensures ∙ sym c.deref-2.ensures.len ∙ many) c.in_ok-make.ensures.ok (c.in_ok-make.ensures.count ∙ many))
