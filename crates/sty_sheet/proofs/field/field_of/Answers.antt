use Rattle.std.proofs.Common.{◌≡◌, ◌<◌, ◌∙◌, ap, sym, length, get_or, arith, false-eqb}
use Rattle.std.proofs.lemmas.Str.{IsCharBoundary-after_ascii}
use Rattle.sty_sheet.proofs.field.field_of.Goals as goal

pub range_from-requires : goal.range_from-requires
range_from-requires c =
    let bs = c.body-counts.result.now in
    let some : 0 < length bs = omega (arith, false-eqb _ 0 c.if-is_empty.ensures) in
    let is : get_or bs 0 0 ≡ 92 = ap (λ l. get_or l 0 0) (sym c.as_bytes.ensures.value) ∙ c.if-as_bytes-ne92.false in
    λ _. IsCharBoundary-after_ascii bs 0 c.body-counts.utf8 some (omega arith)
