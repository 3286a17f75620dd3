use Rattle.std.proofs.Common.{◌≡◌, ◌++◌, length, string_bytes}
use denote.Text.{Utf8}
use denote.Shadow.{shadow}
use Rattle.book_folder.specs.Likes as likes
use Rattle.book_folder.proofs.likes.push_with_ends.Given as goal

-- what was put and what is left make the whole
abbrev pub invariant-lines : goal.invariant-lines
invariant-lines l =
    shadow (Utf8 l.left)
    × (string_bytes l.made ++ likes.with_ends l.end l.left
    ≡ string_bytes l.initial.made ++ likes.with_ends l.end l.text)

abbrev pub decreases-lines : goal.decreases-lines
decreases-lines l = length l.left
