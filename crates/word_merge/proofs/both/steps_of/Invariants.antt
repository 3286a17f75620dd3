use Rattle.std.proofs.Common.{◌≡◌, take}
use Rattle.word_diff.specs.Parts.{spans}
use Rattle.word_merge.specs.Steps.{steps_of}
use Rattle.word_merge.proofs.both.steps_of.Given as goal

abbrev pub invariant-loop-part : goal.invariant-loop-part
invariant-loop-part l = spans l.made.items ≡ steps_of (spans (take l.part-index l.parts))
