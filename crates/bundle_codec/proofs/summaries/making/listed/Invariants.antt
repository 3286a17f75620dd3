use Rattle.bundle_codec.proofs.SoFar.{Walked}
use Rattle.bundle_codec.proofs.summaries.making.listed.Given as goal

abbrev pub invariant-loop-name : goal.invariant-loop-name
invariant-loop-name l = Walked l.fn.held l.name-iterator l.names.items
