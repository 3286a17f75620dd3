use Rattle.std.proofs.Common.{◌≡◌, take}
use Rattle.std.specs.List.{flat_map}
use Rattle.concordance.specs.Hits.{occurrences}
use Rattle.concordance.specs.Loops.LeafViews.{passages_view}
use Rattle.concordance.proofs.finding.occurrences.Given as goal

abbrev pub invariant-loop-passage : goal.invariant-loop-passage
invariant-loop-passage l = passages_view l.found.items ≡ flat_map (occurrences l.needle) (passages_view (take l.passage-index l.passages))
