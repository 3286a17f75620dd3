use Rattle.std.proofs.Common.{◌||◌, ◌∙◌, ap, sym, List, ℕ}
use Rattle.std.specs.List.{list_any}
use Rattle.std.specs.Str.{bytes_eq}
use Rattle.sty_sheet.specs.Records.{has_word}
use Rattle.sty_sheet.specs.Views.{words_left}
use Rattle.sty_sheet.proofs.UnderLemmas.{with_word, move_word}
use Rattle.sty_sheet.proofs.listed.words_of.Goals as goal

pub loop-word-preserved : goal.loop-word-preserved
loop-word-preserved c = λ (word : List ℕ).
    let keys = c.loop-word.words.keys in
    let rest = words_left c.next.new.self in
    let before = list_any (λ k. bytes_eq word k.now) keys in
    ap (λ ks. list_any (λ k. bytes_eq word k.now) ks || has_word word rest) c.in_ok-insert.ensures.keys
    ∙ ap (λ b. b || has_word word rest) (with_word word c.in-Some.word keys)
    ∙ move_word (bytes_eq word c.in-Some.word.now) before (has_word word rest)
    ∙ ap (λ ws. before || has_word word ws) (sym c.in-Some.ensures.steps)
    ∙ c.loop-word.invariant word
