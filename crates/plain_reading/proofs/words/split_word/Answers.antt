use Rattle.std.proofs.Common.{◌∙◌, ap, sym, subst}
use Rattle.std.specs.List.{prefix_len}
use Rattle.std.specs.Str.{IsCharBoundary}
use Rattle.sty_sheet.specs.Lines.{not_blank}
use Rattle.sty_sheet.proofs.WordLemmas.{boundary_before_blank}
use Rattle.plain_reading.proofs.words.split_word.Goals as goal

pub split_at-requires : goal.split_at-requires
split_at-requires c =
    subst (IsCharBoundary c.args.text.now) (sym (c.word_len.ensures ∙ ap (prefix_len not_blank) c.as_bytes.ensures.value))
    (boundary_before_blank c.args.text.now)
