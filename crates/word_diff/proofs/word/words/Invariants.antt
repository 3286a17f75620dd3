use Rattle.std.proofs.Common.{◌≡◌, ◌++◌, length}
use denote.Text.{Utf8}
use denote.Shadow.{shadow}
use Rattle.word_diff.specs.Words.{texts, words_of}
use Rattle.word_diff.proofs.word.words.Given as goal

abbrev pub invariant-loop-rest : goal.invariant-loop-rest
invariant-loop-rest l = shadow (Utf8 l.rest) × (texts l.words.items ++ words_of l.rest ≡ words_of l.text)

abbrev pub decreases-loop-rest : goal.decreases-loop-rest
decreases-loop-rest l = length l.rest
