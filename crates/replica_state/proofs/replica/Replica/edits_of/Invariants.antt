use Rattle.std.proofs.Common.{◌≡◌, ◌+◌, take}
use Rattle.replica_state.specs.Changes.{edits_from, changes_view}
use Rattle.replica_state.proofs.replica.Replica.edits_of.Given as goal

abbrev pub invariant-loop-change : goal.invariant-loop-change
invariant-loop-change l = record {
  counted : l.number ≡ l.fn.first + l.change-index;
  made : l.ops.items ≡ edits_from l.fn.first l.self l.book (changes_view (take l.change-index l.changes));
}
