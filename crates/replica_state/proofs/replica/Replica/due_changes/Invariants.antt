use Rattle.std.proofs.Common.{◌≡◌, map, take, filter}
use Rattle.verse_cut.specs.Views.{pieces_view}
use Rattle.replica_state.specs.Changes.{changes_view}
use Rattle.replica_state.specs.Imports.{is_due, due_change}
use Rattle.replica_state.proofs.replica.Replica.due_changes.Given as goal

abbrev pub invariant-loop-key : goal.invariant-loop-key
invariant-loop-key l =
    (l.cursor ≡ l.self.held)
    × (changes_view l.changes.items ≡ map (due_change l.self.held l.book (pieces_view l.pieces))
    (filter (is_due l.self.held l.book (pieces_view l.pieces)) (take l.key-index l.key-items)))
