use Rattle.std.proofs.Common.{◌≡◌, ◌+◌, ◌<◌, length, None, option_map}
use Rattle.std.specs.Prelude.{IfSome}
use Rattle.verse_cut.specs.Views.{pieces_view}
use Rattle.book_folder.specs.Stale.{oldest_of, choice_view}
use Rattle.book_folder.proofs.stale.oldest_alike.Given as goal

abbrev pub invariant-older : goal.invariant-older
invariant-older l =
    (oldest_of (option_map choice_view l.found) l.at l.left l.base.held l.base.name l.book (pieces_view l.pieces)
    ≡ oldest_of None 0 l.older l.base.held l.base.name l.book (pieces_view l.pieces))
    × ((l.at + length l.left ≡ length l.older) × IfSome l.found (λ c. c.at < l.at))

abbrev pub decreases-older : goal.decreases-older
decreases-older l = length l.left
