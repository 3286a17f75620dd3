use Rattle.std.proofs.Common.{◌≡◌, ◌++◌, length}
use denote.Text.{Utf8}
use denote.Shadow.{shadow}
use Rattle.folder_setup.specs.Paths as paths
use Rattle.folder_setup.proofs.paths.names_of.Given as goal

abbrev pub invariant-names : goal.invariant-names
invariant-names l =
    shadow (Utf8 l.left)
    × (paths.names_view l.names.items ++ paths.names_of l.left ≡ paths.names_of l.path)

abbrev pub decreases-names : goal.decreases-names
decreases-names l = length l.left
