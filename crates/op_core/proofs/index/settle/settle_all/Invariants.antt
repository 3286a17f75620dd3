use Rattle.std.proofs.Common.{◌≡◌, true, vec_len, Some}
use Rattle.std.specs.List.{AllByRecursion}
use Rattle.usfm_ref.specs.declared.segment.Segment.{Segment}
use Rattle.op_core.specs.Loops.Index.{register_of, change_at, IsOrderly, IsRisingChange}
use Rattle.op_core.specs.Loops.Changes.{change_for, AllHaveRoom}
use Rattle.op_core.specs.declared.index.change.Change.{Change}
use Rattle.op_core.proofs.Indexed.Turned.{changes_rise}
use Rattle.op_core.proofs.Indexed.Settled.{Pending}
use Rattle.op_core.proofs.index.settle.settle_all.Given as goal

abbrev pub invariant-changes : goal.invariant-changes
invariant-changes l = record {
  orderly : IsOrderly l.chapters.items;
  rising : changes_rise l.changes.items ≡ true;
  each : AllByRecursion IsRisingChange l.changes.items;
  found : AllByRecursion (λ (c : Change). change_for (change_at c) l.initial.changes.items ≡ Some c) l.changes.items;
  room : AllHaveRoom l.initial.chapters.items l.changes.items;
  pending : (g : Segment) → Pending (change_for g l.changes.items) (change_for g l.initial.changes.items)
      (register_of g l.initial.chapters.items) (register_of g l.chapters.items);
}

abbrev pub decreases-changes : goal.decreases-changes
decreases-changes l = vec_len l.changes
