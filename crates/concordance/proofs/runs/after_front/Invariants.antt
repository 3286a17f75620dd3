use Rattle.std.proofs.Common.{◌≡◌, ◌++◌, List, ℕ, length, chars}
use Rattle.std.specs.Str.Iter.{chars_rest}
use Rattle.concordance.specs.Loops.RunReading.{rest_after, front_bytes}
use Rattle.concordance.proofs.runs.after_front.Given as goal

abbrev pub invariant-loop-c : goal.invariant-loop-c
invariant-loop-c l = record {
  front : (x : List ℕ) × (l.text ≡ x ++ chars_rest l.chars)
      × (front_bytes l.is_word (chars l.text) ≡ x ++ front_bytes l.is_word (chars (chars_rest l.chars)));
  after : rest_after l.is_word (chars (chars_rest l.chars)) ≡ rest_after l.is_word (chars l.text);
}

abbrev pub decreases-loop-c : goal.decreases-loop-c
decreases-loop-c l = length (chars_rest l.chars)
