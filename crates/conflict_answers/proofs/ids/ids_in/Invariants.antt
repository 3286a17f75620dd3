use Rattle.std.proofs.Common.{length}
use Rattle.std.specs.Option.{option_map}
use Rattle.conflict_answers.specs.Loops.Cuts.{after_word}
use Rattle.conflict_answers.proofs.Words.{HasIds}
use Rattle.conflict_answers.proofs.ids.ids_in.Given as goal

abbrev pub invariant-words : goal.invariant-words
invariant-words l = HasIds l.fn.words l.ids.items l.seen (option_map (λ b. b.now) l.left)

abbrev pub decreases-words : goal.decreases-words
decreases-words l = length (after_word (option_map (λ b. b.now) l.left))
