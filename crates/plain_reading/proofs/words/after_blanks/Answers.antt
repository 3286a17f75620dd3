use Rattle.std.proofs.Common.{◌∙◌, ap, sym, subst}
use Rattle.std.specs.List.{prefix_len}
use Rattle.std.specs.Str.{IsCharBoundary}
use Rattle.usfm_ref.specs.Numbers.{is_blank}
use Rattle.sty_sheet.proofs.WordLemmas.{boundary_after_blanks}
use Rattle.plain_reading.proofs.words.after_blanks.Goals as goal

pub split_at-requires : goal.split_at-requires
split_at-requires c =
    subst (IsCharBoundary c.args.text.now) (sym (c.blanks_len.ensures ∙ ap (prefix_len is_blank) c.as_bytes.ensures.value))
    (boundary_after_blanks c.args.text.now c.utf8.text)
