use Rattle.std.proofs.Common.{◌≡◌, ℕ, ◌≤◌, IsTrue, length}
use Rattle.verse_cut.specs.Places.{key_at}
use Rattle.concordance.specs.Loops.Reading.{are_neighbours, begin_of, end_of}
use Rattle.concordance.specs.Loops.LeafViews.{pieces_left}
use Rattle.concordance.proofs.places.Places.key_at.Given as goal

abbrev pub invariant-loop-self : goal.invariant-loop-self
invariant-loop-self l = record {
  neighbours : IsTrue (are_neighbours (begin_of (pieces_left l.self)) (pieces_left l.self));
  begun : begin_of (pieces_left l.self) ≤ l.at;
  end : end_of (pieces_left l.self) ≡ end_of (pieces_left l.initial.self);
  same : (n : ℕ) → l.at ≤ n → key_at (pieces_left l.self) n ≡ key_at (pieces_left l.initial.self) n;
}

abbrev pub decreases-loop-self : goal.decreases-loop-self
decreases-loop-self l = length l.self.pieces.now
