use Rattle.std.proofs.Common.{◌≡◌, take}
use Rattle.op_core.specs.Ids.{Id}
use Rattle.op_core.specs.NextIds.{is_among}
use Rattle.op_core.specs.Loops.Turns.{comes}
use Rattle.op_core.proofs.index.turns.gather_arrived.Given as goal

abbrev pub invariant-loop-turn : goal.invariant-loop-turn
invariant-loop-turn l = (q : Id) → is_among l.ids.items q ≡ comes l.new (take l.turn-index l.own) q
