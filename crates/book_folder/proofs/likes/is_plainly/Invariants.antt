use Rattle.std.proofs.Common.{◌≡◌, length}
use Rattle.usfm_ref.specs.Books.{same_bytes}
use Rattle.book_folder.specs.Likes as likes
use Rattle.book_folder.proofs.likes.is_plainly.Given as goal

-- what is left of the two is alike exactly where they are
abbrev pub invariant-bytes : goal.invariant-bytes
invariant-bytes l =
    same_bytes (likes.without_cr l.left) (likes.without_cr l.right)
    ≡ same_bytes (likes.without_cr l.one) (likes.without_cr l.other)

abbrev pub decreases-bytes : goal.decreases-bytes
decreases-bytes l = length l.left
