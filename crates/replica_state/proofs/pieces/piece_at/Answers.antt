use Rattle.std.proofs.Common.{sym, ap, ◌∙◌, arith}
use Rattle.std.specs.Option.{option_map}
use Rattle.std.specs.Ordering.{is_eq}
use Rattle.usfm_ref.specs.Keys.{key_cmp}
use Rattle.usfm_ref.proofs.Orders.{key_total}
use Rattle.usfm_ref.proofs.Sorted.{found_here, found_not, found_end, tied_back}
use Rattle.verse_cut.specs.Views.{piece_view}
use Rattle.verse_cut.specs.declared.cutter.Piece.{Piece}
use Rattle.replica_state.specs.Imports.{piece_own_text}
use Rattle.replica_state.proofs.KeyLists.{piece_found}
use Rattle.replica_state.proofs.pieces.piece_at.Goals.{then-at-pieces+else-is_eq, else-at-pieces}
use Rattle.replica_state.proofs.pieces.piece_at.Goals as goal

pub returns-then-is_eq : goal.returns-then-is_eq
returns-then-is_eq c =
    sym (ap piece_own_text (piece_found c.args.key c.args.pieces.now
    ∙ ap (option_map piece_view) (found_here key_cmp key_total
    (λ (p : Piece). p.key) c.args.key c.args.pieces.now c.place_piece-at.result c.index-pieces-at.result c.requires.rising
    c.place_piece-at.ensures.place c.if-at-pieces.true c.index-pieces-at.is
    (tied_back key_cmp key_total c.index-pieces-at.result.key c.args.key _
    (sym (c.is_eq.ensures ∙ ap is_eq c.order.ensures) ∙ c.if-is_eq.true)))))

pub returns : goal.returns
returns c = sym (ap piece_own_text (piece_found c.args.key c.args.pieces.now ∙ ap (option_map piece_view) (elim c.if-at-pieces.branch [
  | then-at-pieces+else-is_eq w ↦ found_not key_cmp key_total
      (λ (p : Piece). p.key) c.args.key c.args.pieces.now c.place_piece-at.result w.index-pieces-at.result c.requires.rising
      c.place_piece-at.ensures.place w.index-pieces-at.is
      (tied_back key_cmp key_total w.index-pieces-at.result.key c.args.key _
      (sym (w.is_eq.ensures ∙ ap is_eq w.order.ensures) ∙ w.if-is_eq.false))
  | else-at-pieces w ↦ found_end key_cmp key_total
      (λ (p : Piece). p.key) c.args.key c.args.pieces.now c.place_piece-at.result c.requires.rising c.place_piece-at.ensures.place
      (omega arith)
])))
