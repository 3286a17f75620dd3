use Rattle.std.proofs.Common.{◌≡◌, ◌++◌, map, take}
use Rattle.replica_state.proofs.import.push_piece_keys.Given as goal

abbrev pub invariant-loop-piece : goal.invariant-loop-piece
invariant-loop-piece l = l.keys.items ≡ l.initial.keys.items ++ map (λ p. p.key) (take l.piece-index l.pieces)
