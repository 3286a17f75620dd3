use Rattle.std.proofs.Common.{◌≡◌, ◌+◌, length}
use Rattle.op_core.specs.Sets.{IsOpSet}
use Rattle.usfm_cli.specs.Combining.{bytes_of}
use Rattle.usfm_cli.specs.Loops.Gathered.{held_in, AreSoMany}
use Rattle.usfm_cli.proofs.Combined.{IsSoFar}
use Rattle.usfm_cli.proofs.combine.gather_each.Given as goal

-- what is held is the union of as many as are counted, which came before those that are left
abbrev pub invariant-bundles : goal.invariant-bundles
invariant-bundles l =
    IsOpSet (held_in l.gathered) × AreSoMany l.at l.gathered
    × IsSoFar (bytes_of l.bundles) l.at (held_in l.gathered) (bytes_of l.left)
    × (l.at + length l.left ≡ length l.bundles)

abbrev pub decreases-bundles : goal.decreases-bundles
decreases-bundles l = length l.left
