use Rattle.std.proofs.Common.{◌≡◌, length, map}
use Rattle.book_folder.specs.Taking as taking
use Rattle.book_folder.specs.Wanted.{wanted_view}
use Rattle.book_folder.proofs.changed.is_wanted.Given as goal

abbrev pub invariant-wanted : goal.invariant-wanted
invariant-wanted l =
    taking.is_wanted (map wanted_view l.left) l.book l.key ≡ taking.is_wanted (map wanted_view l.wanted) l.book l.key

abbrev pub decreases-wanted : goal.decreases-wanted
decreases-wanted l = length l.left
