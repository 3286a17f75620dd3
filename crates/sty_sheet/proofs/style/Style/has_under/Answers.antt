use Rattle.std.proofs.Common.{rules, refl, ap, ◌∙◌}
use Rattle.std.specs.Str.{bytes_eq}
use Rattle.std.proofs.lemmas.Iterator.Consumers.{YieldsList-from_first}
use Rattle.std.proofs.lemmas.Iterator.Search.{any_from_yields_List}
use Rattle.sty_sheet.specs.Records.{has_word}
use Rattle.sty_sheet.specs.Views.{words_left}
use Rattle.sty_sheet.proofs.style.Style.has_under.Goals as goal

pub returns : goal.returns
returns c =
    any_from_yields_List (bytes_eq c.args.word.now) c.any.new.self _ c.any.result c.any.ensures.ran
    (YieldsList-from_first (λ w. w.now) words_left (words_left c.under_words.result) refl) (λ x b q h. search rules)
    ∙ ap (has_word c.args.word.now) c.under_words.ensures
