use Rattle.std.proofs.Common.{◌∙◌, ap, sym, subst, true}
use Rattle.std.specs.Str.{IsCharBoundary}
use Rattle.sty_sheet.specs.Lines.{comment_at}
use Rattle.sty_sheet.proofs.WordLemmas.{boundary_before_comment}
use Rattle.sty_sheet.proofs.line.uncommented.Goals as goal

pub split_at-requires : goal.split_at-requires
split_at-requires c =
    subst (IsCharBoundary c.args.text.now) (sym (c.comment_at.ensures ∙ ap (comment_at true) c.as_bytes.ensures.value))
    (boundary_before_comment c.args.text.now)
