use Rattle.std.proofs.Common.{◌≡◌}
use Rattle.std.specs.BTreeMap.{values}
use Rattle.replica_state.specs.Loops.Gathering.{by_id}
use Rattle.replica_state.proofs.Gathered.{IsGathering}
use Rattle.replica_state.proofs.gathering.Gathering.receive.Given as goal

abbrev pub invariant-loop-view : goal.invariant-loop-view
invariant-loop-view l = (l.ops.entries ≡ by_id (values l.ops)) × IsGathering l.fn.self l.bundle (values l.ops) l.view-iterator
