use Rattle.std.proofs.Common.{◌≡◌, ◌++◌, ◌+◌, ◌-◌, ◌≤◌, false, length, chars, IsUtf8}
use denote.Text.{Utf8}
use denote.Shadow.{shadow}
use Rattle.concordance.specs.Loops.LeafViews.{passage_view, passages_view}
use Rattle.concordance.specs.Words.{runs_from, runs_in}
use Rattle.concordance.proofs.runs.push_runs.Given as goal

abbrev pub invariant-loop-at : goal.invariant-loop-at
invariant-loop-at l =
    shadow (Utf8 l.rest)
    × (record {
      whole : IsUtf8 l.passage.text.now;
      within : length l.rest ≤ length l.passage.text.now;
      runs : passages_view l.runs.items ++ runs_from false (l.passage.start + (length l.passage.text.now - length l.rest)) (chars l.rest)
          ≡ passages_view l.initial.runs.items ++ runs_in (passage_view l.passage);
    })

abbrev pub decreases-loop-at : goal.decreases-loop-at
decreases-loop-at l = length l.rest
