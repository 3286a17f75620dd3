use Rattle.std.proofs.Common.{◌-◌, ◌∙◌, ap, sym, subst, length, arith}
use Rattle.std.specs.List.{suffix_len}
use Rattle.std.specs.Str.{IsCharBoundary}
use Rattle.std.proofs.lemmas.List.Sums.{suffix_len-le-length}
use Rattle.usfm_ref.specs.Numbers.{is_blank}
use Rattle.sty_sheet.proofs.WordLemmas.{boundary_before_end}
use Rattle.sty_sheet.proofs.words.trimmed.Goals as goal

pub overflow_sub-front : goal.overflow_sub-front
overflow_sub-front c =
    omega (
      arith,
      c.blanks_at_end.ensures ∙ ap (suffix_len is_blank) c.as_bytes.ensures.value,
      suffix_len-le-length is_blank
          c.after_blanks-front.result.now,
    )

pub split_at-requires : goal.split_at-requires
split_at-requires c =
    let f = c.after_blanks-front.result.now in
    subst (IsCharBoundary f) (ap (λ n. length f - n) (sym (c.blanks_at_end.ensures ∙ ap (suffix_len is_blank) c.as_bytes.ensures.value)))
    (boundary_before_end f)
