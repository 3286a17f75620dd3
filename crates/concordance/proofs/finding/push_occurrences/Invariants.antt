use Rattle.std.proofs.Common.{◌≡◌, ◌++◌, All, map, ◌+◌}
use Rattle.memchr.specs.Find.{OccursAt}
use Rattle.concordance.specs.Hits.{occurrences}
use Rattle.concordance.specs.Loops.LeafViews.{passage_view, passages_view}
use Rattle.concordance.proofs.finding.push_occurrences.Given as goal

abbrev pub invariant-loop-at : goal.invariant-loop-at
invariant-loop-at l =
    (goal.iterator-loop-at).can_next l.at-iterator
    × (goal.iterator-loop-at).is_finite l.at-iterator
    × (record {
      found : passages_view l.found.items ++ map (λ at. ((record { start = l.passage.start + at; text = l.finder }))) l.at-iterator
          ≡ passages_view l.initial.found.items ++ occurrences l.finder (passage_view l.passage);
      occur : All (OccursAt l.passage.text.now l.finder) l.at-iterator;
    })
