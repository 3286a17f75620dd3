use Rattle.std.proofs.Common.{◌≡◌, ◌++◌, ◌-◌, ◌≤◌, length}
use Rattle.usfm_token.specs.Tokens.{tokens_of}
use Rattle.usfm_token.specs.View.{rest_of}
use Rattle.segment_check.specs.Reading.{found_from, start_state}
use Rattle.segment_check.specs.Loops.WalkViews.{before, state_of}
use Rattle.segment_check.proofs.marks.find_marks.Given as goal

abbrev pub invariant-loop-next : goal.invariant-loop-next
invariant-loop-next l = record {
  ahead : tokens_of l.at ≡ before l.next (tokens_of (rest_of l.tokens));
  found : l.findings.items ++ found_from (state_of l.walk) (length l.text - length l.at) (tokens_of l.at)
      ≡ found_from (start_state l.seen) 0 (tokens_of l.text);
  within : length l.at ≤ length l.text;
}

abbrev pub decreases-loop-next : goal.decreases-loop-next
decreases-loop-next l = length (tokens_of l.at)
