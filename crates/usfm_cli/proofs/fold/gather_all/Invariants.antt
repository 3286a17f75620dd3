use Rattle.std.proofs.Common.{ℕ, length}
use Rattle.op_core.specs.Sets.{IsOpSet}
use Rattle.usfm_cli.specs.Loops.Gathered.{held_in, AreSoMany}
use Rattle.usfm_cli.proofs.Unions.{IsOnWay}
use Rattle.usfm_cli.proofs.fold.gather_all.Given as goal

abbrev pub invariant-bundles : goal.invariant-bundles
invariant-bundles l =
    IsOpSet (held_in l.gathered) × (before : ℕ) × AreSoMany before l.gathered × IsOnWay l.input before (held_in l.gathered) l.rest

abbrev pub decreases-bundles : goal.decreases-bundles
decreases-bundles l = length l.rest
