use Rattle.std.proofs.Common.{sym, ◌∙◌, string_bytes}
use Rattle.command_line.proofs.SplitReferences.{key_found}
use Rattle.command_line.proofs.words.has_split_reference.Goals as goal

pub returns-then-ends_reference : goal.returns-then-ends_reference
returns-then-ends_reference c =
    sym (key_found (λ word. string_bytes word) c.args.words.now c.loop-word.word-index c.loop-word.is_after_book c.loop-word.invariant
    c.word-item.result c.loop-word-test.true c.word-item.is (sym c.ends_reference.ensures ∙ c.if-ends_reference.true))
