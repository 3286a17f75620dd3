use Rattle.std.proofs.Common.{◌≡◌, ◌++◌, length, map}
use Rattle.std.specs.List.{flat_map}
use Rattle.replica_state.specs.Changes.{changes_view}
use Rattle.verse_cut.specs.Views.{pieces_view}
use Rattle.book_folder.specs.Taking as taking
use Rattle.book_folder.specs.Wanted.{wanted_view}
use Rattle.book_folder.proofs.changed.changes.Given as goal

abbrev pub invariant-keys : goal.invariant-keys
invariant-keys l =
    (l.base ≡ l.fn.base.held)
    × (changes_view l.changes.items ++ flat_map (λ key. taking.listed (taking.change_at l.replica.held l.fn.base.held
    (map wanted_view l.settled) l.book (pieces_view l.pieces) key)) l.left
    ≡ taking.file_changes l.replica.held l.fn.base.held (map wanted_view l.settled) l.book (pieces_view l.pieces))

abbrev pub decreases-keys : goal.decreases-keys
decreases-keys l = length l.left
