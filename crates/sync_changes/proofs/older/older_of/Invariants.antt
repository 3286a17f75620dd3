use Rattle.std.proofs.Common.{take}
use Rattle.sync_changes.specs.Loops.Parts.{HasOlder}
use Rattle.sync_changes.proofs.older.older_of.Given as goal

abbrev pub invariant-loop-bundle : goal.invariant-loop-bundle
invariant-loop-bundle l = HasOlder (take l.bundle-index l.bundles) l.segments l.olds.items
