use Rattle.std.proofs.Common.{take}
use Rattle.sync_changes.specs.Loops.Parts.{HasNamed, in_part}
use Rattle.sync_changes.proofs.shown.named_in.Given as goal

abbrev pub invariant-loop-op : goal.invariant-loop-op
invariant-loop-op l = HasNamed (take l.op-index l.ops) (in_part l.part) l.ids
