use Rattle.std.proofs.Common.{length}
use Rattle.op_core.proofs.Indexed.Begun.{Begun}
use Rattle.op_core.proofs.index.begin.begin_index.Given as goal

abbrev pub invariant-runs : goal.invariant-runs
invariant-runs l = Begun l.new l.turns l.chapters.items l.rest

abbrev pub decreases-runs : goal.decreases-runs
decreases-runs l = length l.rest
