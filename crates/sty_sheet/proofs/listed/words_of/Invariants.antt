use Rattle.std.proofs.Common.{◌≡◌, ◌||◌, ℕ, List}
use Rattle.std.specs.List.{list_any}
use Rattle.std.specs.Str.{bytes_eq}
use Rattle.sty_sheet.specs.Records.{has_word}
use Rattle.sty_sheet.specs.StyleViews.{record_of}
use Rattle.sty_sheet.specs.Views.{words_left}
use Rattle.sty_sheet.proofs.listed.words_of.Given as goal

abbrev pub invariant-loop-word : goal.invariant-loop-word
invariant-loop-word l =
    (word : List ℕ) → (list_any (λ k. bytes_eq word k.now) l.words.keys || has_word word (words_left l.word-iterator))
    ≡ has_word word (record_of l.fn.style).under
