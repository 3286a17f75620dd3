use Rattle.std.proofs.Common.{◌≡◌, length}
use Rattle.book_folder.specs.Likes as likes
use Rattle.book_folder.proofs.likes.each_lf_has_cr.Given as goal

abbrev pub invariant-bytes : goal.invariant-bytes
invariant-bytes l = likes.each_lf_has_cr l.before l.left ≡ likes.each_lf_has_cr 0 l.text

abbrev pub decreases-bytes : goal.decreases-bytes
decreases-bytes l = length l.left
