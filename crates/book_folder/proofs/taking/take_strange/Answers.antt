use Rattle.std.proofs.Common.{List, sym, subst}
use Rattle.std.specs.Prelude.{IsTrue}
use Rattle.usfm_ref.specs.Keys.{key_cmp}
use Rattle.usfm_ref.specs.Rising.{rises_by}
use Rattle.verse_cut.specs.declared.cutter.Piece.{Piece}
use Rattle.replica_state.proofs.KeyLists.{piece_keys_rise}
use Rattle.book_folder.proofs.taking.take_strange.Goals as goal

pub push_stood-requires-in-None : goal.push_stood-requires-in-None
push_stood-requires-in-None c = record {
  rising =
      subst (λ (ps : List Piece). IsTrue (rises_by key_cmp (λ p. p.key) ps)) (sym c.deref-in-None.ensures.value)
      (subst IsTrue (piece_keys_rise c.in_ok-pieces-in-None.pieces.items) c.in_ok-pieces-in-None.ensures.rise);
}
