use Rattle.std.proofs.Common.{string_bytes}
use Rattle.command_line.proofs.SplitReferences.{SplitFrom}
use Rattle.command_line.proofs.words.has_split_reference.Given as goal

abbrev pub invariant-loop-word : goal.invariant-loop-word
invariant-loop-word l = SplitFrom (λ word. string_bytes word) l.words l.word-index l.is_after_book
