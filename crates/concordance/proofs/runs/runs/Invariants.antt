use Rattle.std.proofs.Common.{◌≡◌, All, take}
use Rattle.std.specs.List.{flat_map}
use Rattle.concordance.specs.Loops.Reading.{IsText}
use Rattle.concordance.specs.Loops.LeafViews.{passages_view}
use Rattle.concordance.specs.Words.{runs_in}
use Rattle.concordance.proofs.runs.runs.Given as goal

abbrev pub invariant-loop-passage : goal.invariant-loop-passage
invariant-loop-passage l = record {
  text : All IsText (passages_view (take l.passage-index l.passages));
  found : passages_view l.found.items ≡ flat_map runs_in (passages_view (take l.passage-index l.passages));
}
