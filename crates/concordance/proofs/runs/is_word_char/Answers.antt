use Rattle.std.proofs.Common.{sym, ◌∙◌, ltb-true}
use Rattle.concordance.proofs.Letters.{ascii_word_char}
use Rattle.concordance.proofs.runs.is_word_char.Goals as goal

pub returns-then-is_ascii : goal.returns-then-is_ascii
returns-then-is_ascii c =
    c.is_ascii_alphabetic.ensures.value ∙ ascii_word_char c.args.c (ltb-true _ _ (sym c.if-is_ascii.ensures))
