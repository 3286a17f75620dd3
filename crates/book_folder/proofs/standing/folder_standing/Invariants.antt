use Rattle.std.proofs.Common.{◌≡◌}
use Rattle.book_folder.specs.Standing as stand
use Rattle.book_folder.specs.Wanted.{seen_view}
use Rattle.book_folder.proofs.standing.folder_standing.Given as goal

abbrev pub invariant-refused : goal.invariant-refused
invariant-refused l =
    stand.stands_without l.more (stand.remaining_view l.remaining) ≡ stand.stands (seen_view l.seen)

abbrev pub decreases-refused : goal.decreases-refused
decreases-refused l = l.more
