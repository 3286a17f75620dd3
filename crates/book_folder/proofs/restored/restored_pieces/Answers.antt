use Rattle.std.proofs.Common.{◌≡◌, ◌∙◌, List, map, ap, sym, subst}
use Rattle.std.proofs.lemmas.Iterator.Consumers.{YieldsList-from_first, map_from_collect}
use Rattle.std.proofs.lemmas.Result.{IfOk-weaker}
use Rattle.std.specs.Prelude.{IfOk, IsTrue}
use Rattle.usfm_ref.specs.Keys.{key_cmp}
use Rattle.usfm_ref.specs.Rising.{rises_by}
use Rattle.verse_cut.specs.Pieces.{PieceParts, pieces_of}
use Rattle.verse_cut.specs.Views.{piece_view, pieces_view}
use Rattle.verse_cut.proofs.CutLaws.{pieces_rise}
use Rattle.replica_state.proofs.KeyLists.{piece_keys_rise}
use Rattle.book_folder.specs.Loops.{pieces_left}
use Rattle.book_folder.specs.Restored.{restored_piece, restored_pieces}
use Rattle.book_folder.proofs.Twice.RestoredRise.{restored_rise}
use Rattle.book_folder.proofs.restored.restored_pieces.Goals as goal

pub returns-clause-rise : goal.returns-clause-rise
returns-clause-rise c =
    let base = c.args.base.now.held in
    let book = c.args.book in
    let text = c.args.text.now in
    let cursor = c.cursor.ensures ∙ c.set.ensures in
    let value : IfOk c.collect.result (λ made. pieces_view made.items ≡ restored_pieces base book text) =
    map_from_collect _ c.collect.ensures.ran
    (YieldsList-from_first piece_view pieces_left _
    ((λ i. map (restored_piece (cursor i) book) (pieces_view (c.deref.ensures.value i)))
    ∙ ap (map (restored_piece base book)) c.in_ok-parts.ensures.value)) in
    IfOk-weaker c.collect.result _ _
    (λ made is.
    subst IsTrue
    (sym (sym (piece_keys_rise made.items)
    ∙ ap (λ (ps : List PieceParts). rises_by key_cmp (λ p. p.key) ps) is
    ∙ restored_rise base book (pieces_of text)))
    (pieces_rise text))
    value
