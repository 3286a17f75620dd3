use Rattle.std.proofs.Common.{◌≡◌, take}
use Rattle.op_core.specs.Ids.{Id}
use Rattle.op_core.specs.NextIds.{is_among}
use Rattle.op_core.specs.Loops.Turns.{is_called}
use Rattle.op_core.proofs.index.turns.gather_named.Given as goal

abbrev pub invariant-loop-turn : goal.invariant-loop-turn
invariant-loop-turn l = (q : Id) → is_among l.ids.items q ≡ is_called l.new (take l.turn-index l.own) q
