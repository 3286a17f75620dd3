use Rattle.std.proofs.Common.{take}
use Rattle.segment_history.specs.Loops.Gathering.{HasReplacers}
use Rattle.segment_history.proofs.replacers.replacers_of.Given as goal

abbrev pub invariant-loop-op : goal.invariant-loop-op
invariant-loop-op l = HasReplacers (take l.op-index l.ops) l.made
