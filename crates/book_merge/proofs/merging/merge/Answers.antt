use Rattle.std.proofs.Common.{ap, sym, ◌∙◌}
use Rattle.usfm_ref.specs.Keys.{key_cmp}
use Rattle.usfm_ref.specs.Rising.{rises_by}
use Rattle.verse_cut.specs.declared.cutter.Piece.{Piece}
use Rattle.replica_state.proofs.KeyLists.{piece_keys_rise}
use Rattle.book_merge.proofs.merging.merge.Goals as goal

pub theirs_read-requires-clause-base : goal.theirs_read-requires-clause-base
theirs_read-requires-clause-base c =
    ap (rises_by key_cmp (λ (p : Piece). p.key)) c.deref.ensures.value
    ∙ sym (piece_keys_rise c.in_ok-base_pieces.base_pieces.items) ∙ c.in_ok-base_pieces.ensures.rise

pub theirs_read-requires-clause-ours : goal.theirs_read-requires-clause-ours
theirs_read-requires-clause-ours c =
    ap (rises_by key_cmp (λ (p : Piece). p.key)) c.deref-2.ensures.value
    ∙ sym (piece_keys_rise c.in_ok-our_pieces.our_pieces.items) ∙ c.in_ok-our_pieces.ensures.rise

pub ours_read-requires-clause-base : goal.ours_read-requires-clause-base
ours_read-requires-clause-base c =
    ap (rises_by key_cmp (λ (p : Piece). p.key)) c.deref-4.ensures.value
    ∙ sym (piece_keys_rise c.in_ok-base_pieces.base_pieces.items) ∙ c.in_ok-base_pieces.ensures.rise

pub ours_read-requires-clause-theirs : goal.ours_read-requires-clause-theirs
ours_read-requires-clause-theirs c =
    ap (rises_by key_cmp (λ (p : Piece). p.key)) c.deref-6.ensures.value
    ∙ sym (piece_keys_rise c.in_ok-their_pieces.their_pieces.items) ∙ c.in_ok-their_pieces.ensures.rise
