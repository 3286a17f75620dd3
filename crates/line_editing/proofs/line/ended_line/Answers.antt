use Rattle.std.proofs.Common.{None, Some, refl, inl, inr, arith}
use Rattle.std.proofs.lemmas.Str.Pattern.{strip_suffix_char}
use Rattle.line_editing.proofs.line.ended_line.Goals as goal

pub returns-in-Some : goal.returns-in-Some
returns-in-Some c = inl (refl, strip_suffix_char 13 c.args.line.now (Some c.in-Some.body) c.in-Some.ensures.cases (omega arith))

pub returns-in-None : goal.returns-in-None
returns-in-None c =
    inr (refl, refl, strip_suffix_char 13 c.args.line.now None c.in-None.ensures.cases (omega arith))
