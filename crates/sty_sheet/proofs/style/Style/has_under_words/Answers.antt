use Rattle.std.proofs.Common.{◌∙◌, ◌==◌, ap, not, length}
use Rattle.sty_sheet.proofs.WordList.{no_words}
use Rattle.sty_sheet.proofs.style.Style.has_under_words.Goals as goal

pub returns : goal.returns
returns c =
    ap not (c.is_empty.ensures ∙ ap (λ bs. length bs == 0) c.after_blanks.ensures ∙ no_words c.args.self.now.under.now)
