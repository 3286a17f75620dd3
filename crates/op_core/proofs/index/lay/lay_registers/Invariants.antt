use Rattle.std.proofs.Common.{length}
use Rattle.op_core.specs.Loops.Index.{Lays}
use Rattle.op_core.proofs.index.lay.lay_registers.Given as goal

abbrev pub invariant-groups : goal.invariant-groups
invariant-groups l = record {
  lays : Lays l.initial.chapters.items l.chapters.items;
}

abbrev pub decreases-groups : goal.decreases-groups
decreases-groups l = length l.rest
