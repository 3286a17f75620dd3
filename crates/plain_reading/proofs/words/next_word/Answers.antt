use Rattle.std.proofs.Common.{◌<◌, ◌∙◌, ap, sym, length, arith, ◌∷◌, eqb-true, false-eqb}
use Rattle.sty_sheet.specs.Lines.{first_word, after_word, after_blanks}
use Rattle.sty_sheet.specs.Records.{words_of}
use Rattle.sty_sheet.proofs.WordList.{next_is, none_is}
use Rattle.plain_reading.proofs.words.next_word.Goals as goal

pub returns-then-is_empty : goal.returns-then-is_empty
returns-then-is_empty c =
    let word = c.split_word.ensures.word ∙ ap first_word c.after_blanks.ensures in
    none_is c.args.text.now (ap length (sym word) ∙ eqb-true _ 0 (sym c.if-is_empty.ensures))

pub returns-else-is_empty : goal.returns-else-is_empty
returns-else-is_empty c =
    let word = c.split_word.ensures.word ∙ ap first_word c.after_blanks.ensures in
    let rest = c.split_word.ensures.rest ∙ ap after_word c.after_blanks.ensures in
    let some : 0 < length (first_word (after_blanks c.args.text.now)) = omega
    (arith, ap length (sym word), false-eqb _ 0 c.if-is_empty.ensures) in
    next_is c.args.text.now some ∙ (λ i. sym word i ∷ words_of (sym rest i))
