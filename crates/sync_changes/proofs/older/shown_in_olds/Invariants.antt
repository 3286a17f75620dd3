use Rattle.std.proofs.Common.{◌≡◌, take}
use Rattle.std.specs.List.{list_any}
use Rattle.op_core.specs.Ids.{Id}
use Rattle.sync_changes.specs.Loops.Parts.{is_absent, lacks}
use Rattle.sync_changes.proofs.older.shown_in_olds.Given as goal

abbrev pub invariant-loop-old : goal.invariant-loop-old
invariant-loop-old l =
    (id : Id) → is_absent l.sets.items id ≡ list_any (lacks l.segment id) (take l.old-index l.olds)
