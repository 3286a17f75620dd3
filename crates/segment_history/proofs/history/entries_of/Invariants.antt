use Rattle.std.proofs.Common.{◌≡◌, map, take}
use Rattle.segment_history.specs.Histories.{entry_of}
use Rattle.segment_history.proofs.history.entries_of.Given as goal

abbrev pub invariant-loop-id : goal.invariant-loop-id
invariant-loop-id l = l.entries.items ≡ map (entry_of l.ops) (take l.id-index l.id-items)
