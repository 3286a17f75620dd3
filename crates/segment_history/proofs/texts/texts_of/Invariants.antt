use Rattle.std.proofs.Common.{take}
use Rattle.segment_history.specs.Loops.Texts.{HasTexts}
use Rattle.segment_history.proofs.texts.texts_of.Given as goal

abbrev pub invariant-loop-op : goal.invariant-loop-op
invariant-loop-op l = HasTexts (take l.op-index l.ops) l.texts
