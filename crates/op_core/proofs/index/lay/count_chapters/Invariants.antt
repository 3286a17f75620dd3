use Rattle.std.proofs.Common.{length}
use Rattle.op_core.proofs.index.lay.count_chapters.Given as goal

abbrev pub invariant-groups : goal.invariant-groups
invariant-groups l = Unit {0}

abbrev pub decreases-groups : goal.decreases-groups
decreases-groups l = length l.rest
