use Rattle.std.proofs.Common.{length}
use Rattle.verse_cut.proofs.Steps.{Goes}
use Rattle.verse_cut.proofs.walk.Walk.next_above.Given as goal

abbrev pub invariant-loop-here : goal.invariant-loop-here
invariant-loop-here l = Goes l.fn.key l.initial.self.here.now l.self.here.now

abbrev pub decreases-loop-here : goal.decreases-loop-here
decreases-loop-here l = length l.self.here.now
