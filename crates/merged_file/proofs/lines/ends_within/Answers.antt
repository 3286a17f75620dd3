use Rattle.std.proofs.Common.{ℕ, ◌==◌, not, sym, ap, ◌∙◌, arith}
use Rattle.merged_file.proofs.LineParts.{ends_by_last, none_within}
use Rattle.merged_file.proofs.lines.ends_within.Goals as goal

pub returns-in-None : goal.returns-in-None
returns-in-None c = sym (none_within c.args.text.now (omega (arith, c.in-None.ensures.item)))

pub returns-in-Some : goal.returns-in-Some
returns-in-Some c =
    ap (λ (b : ℕ). not (b == 10)) (c.in-Some.ensures.item.3.1 0)
    ∙ sym (ends_by_last c.args.text.now (omega (arith, c.in-Some.ensures.item)))
