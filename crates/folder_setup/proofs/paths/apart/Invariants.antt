use Rattle.std.proofs.Common.{◌≡◌, length}
use Rattle.folder_setup.specs.Paths as paths
use Rattle.folder_setup.proofs.paths.apart.Given as goal

abbrev pub invariant-names : goal.invariant-names
invariant-names l =
    paths.apart (paths.names_view l.here) (paths.names_view l.there)
    ≡ paths.apart (paths.names_view l.fn.here) (paths.names_view l.fn.there)

abbrev pub decreases-names : goal.decreases-names
decreases-names l = length l.here
