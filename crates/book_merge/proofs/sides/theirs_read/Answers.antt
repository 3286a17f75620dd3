use Rattle.std.proofs.Common.{ap, sym, ◌∙◌, arith}
use Rattle.std.specs.List.{flat_map}
use Rattle.std.proofs.lemmas.List.{take_all}
use Rattle.std.proofs.lemmas.List.Folds.{flat_map-map}
use Rattle.verse_cut.specs.Views.{piece_view, pieces_view}
use Rattle.verse_cut.specs.declared.cutter.Piece.{Piece}
use Rattle.book_merge.specs.Sides.{theirs_piece}
use Rattle.book_merge.proofs.sides.theirs_read.Goals as goal

pub returns : goal.returns
returns c =
    let text = theirs_piece (pieces_view c.args.base.now) (pieces_view c.args.ours.now) in
    c.loop-piece.invariant
    ∙ ap (flat_map (λ (p : Piece). text (piece_view p))) (take_all c.loop-piece.piece-index c.args.theirs.now (omega arith))
    ∙ sym (flat_map-map text piece_view c.args.theirs.now)
