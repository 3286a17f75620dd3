use Rattle.std.proofs.Common.{take}
use Rattle.missing_verses.specs.Loops.Tallies.{AreTallies}
use Rattle.missing_verses.proofs.tally.tallies_of.Given as goal

abbrev pub invariant-loop-one : goal.invariant-loop-one
invariant-loop-one l = AreTallies (take l.one-index l.covers) l.tallies.items
