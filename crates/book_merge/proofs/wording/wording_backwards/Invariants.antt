use Rattle.std.proofs.Common.{◌≡◌, length, reverse}
use Rattle.book_merge.specs.Wordings as wordings
use Rattle.book_merge.proofs.wording.wording_backwards.Given as goal

-- what is left, before the wording so far, has the wording of all
abbrev pub invariant-bytes : goal.invariant-bytes
invariant-bytes l = wordings.wording_before l.left (reverse l.made.items) ≡ wordings.wording_of l.text

abbrev pub decreases-bytes : goal.decreases-bytes
decreases-bytes l = length l.left
