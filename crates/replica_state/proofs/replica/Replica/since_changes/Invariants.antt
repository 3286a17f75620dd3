use Rattle.std.proofs.Common.{◌≡◌, map, take, filter}
use Rattle.verse_cut.specs.Views.{pieces_view}
use Rattle.replica_state.specs.Changes.{changes_view}
use Rattle.replica_state.specs.Since.{is_changed, since_change}
use Rattle.replica_state.proofs.replica.Replica.since_changes.Given as goal

abbrev pub invariant-loop-key : goal.invariant-loop-key
invariant-loop-key l =
    (l.base ≡ l.was.held)
    × (changes_view l.changes.items ≡ map (since_change l.self.held l.was.held l.book (pieces_view l.pieces))
    (filter (is_changed l.self.held l.was.held l.book (pieces_view l.pieces)) (take l.key-index l.key-items)))
