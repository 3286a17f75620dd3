use Rattle.std.proofs.Common.{◌≡◌, ◌++◌, ◌+◌, length}
use Rattle.std.specs.Option.{option_map}
use Rattle.std.specs.String.{string_bytes}
use Rattle.word_diff.specs.Parts.{spans}
use Rattle.word_merge.specs.Merging.{both_text, merge, merged}
use Rattle.word_merge.proofs.merging.merged.Given as goal

abbrev pub invariant-loop-fuel : goal.invariant-loop-fuel
invariant-loop-fuel l =
    merged (spans l.one) (spans l.other)
    ≡ option_map (λ ss. string_bytes l.made ++ both_text ss) (merge l.fuel l.before (spans l.one_left) (spans l.other_left))

abbrev pub decreases-loop-fuel : goal.decreases-loop-fuel
decreases-loop-fuel l = l.fuel
