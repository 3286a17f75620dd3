use Rattle.std.proofs.Common.{◌≡◌, ◌++◌, take}
use Rattle.word_diff.specs.Parts.{spans}
use Rattle.word_diff.specs.Words.{texts}
use Rattle.word_merge.specs.Steps.{each}
use Rattle.word_merge.proofs.both.push_each.Given as goal

abbrev pub invariant-loop-text : goal.invariant-loop-text
invariant-loop-text l = spans l.made.items ≡ spans l.fn.made.items ++ each l.kind (take l.text-index (texts l.words))
