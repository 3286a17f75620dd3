use Rattle.std.proofs.Common.{◌≡◌, ◌++◌, length, map}
use denote.Text.{Utf8}
use denote.Shadow.{shadow}
use Rattle.book_folder.specs.Naming as naming
use Rattle.book_folder.proofs.names.names_in.Given as goal

abbrev pub invariant-lines : goal.invariant-lines
invariant-lines l =
    shadow (Utf8 l.left)
    × (map naming.book_name_view l.names.items ++ naming.names_in l.left ≡ naming.names_in l.text)

abbrev pub decreases-lines : goal.decreases-lines
decreases-lines l = length l.left
