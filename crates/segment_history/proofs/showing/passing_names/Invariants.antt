use Rattle.std.proofs.Common.{take}
use Rattle.std.specs.Option.{option_copied}
use Rattle.segment_history.specs.Loops.Showing.{HasPassing}
use Rattle.segment_history.proofs.showing.passing_names.Given as goal

abbrev pub invariant-loop-op : goal.invariant-loop-op
invariant-loop-op l = HasPassing (take l.op-index l.ops) (option_copied l.known) l.ids
