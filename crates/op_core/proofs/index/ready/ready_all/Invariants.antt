use Rattle.std.proofs.Common.{length}
use Rattle.op_core.proofs.Indexed.Runs.{Walked}
use Rattle.op_core.proofs.index.ready.ready_all.Given as goal

abbrev pub invariant-runs : goal.invariant-runs
invariant-runs l = Walked l.held l.new l.turns l.initial.chapters.items l.chapters.items l.changes.items l.rest

abbrev pub decreases-runs : goal.decreases-runs
decreases-runs l = length l.rest
