use Rattle.std.proofs.Common.{◌≡◌, ◌++◌, length, string_bytes}
use Rattle.std.specs.List.{flat_map}
use Rattle.folder_setup.specs.Paths as paths
use Rattle.folder_setup.proofs.paths.push_out.Given as goal

abbrev pub invariant-names : goal.invariant-names
invariant-names l =
    string_bytes l.text ++ flat_map paths.out_of (paths.names_view l.left)
    ≡ string_bytes l.fn.text ++ flat_map paths.out_of (paths.names_view l.names)

abbrev pub decreases-names : goal.decreases-names
decreases-names l = length l.left
