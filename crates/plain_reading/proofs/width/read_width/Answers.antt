use Rattle.std.proofs.Common.{◌≡◌, ◌∙◌, ◌<◌, ◌≤◌, ℕ, Ok, Some, sym, ap, subst, arith}
use Rattle.std.proofs.lemmas.Fmt.{parse-decimal}
use Rattle.plain_reading.proofs.width.read_width.Goals as goal

pub returns-in-Ok-clause-reads : goal.returns-in-Ok-clause-reads
returns-in-Ok-clause-reads c width positive within written =
    let read = parse-decimal 64 width c.args.word.now c.parse.result (omega arith) (omega arith) written c.parse.ensures.value.0 in
    let same : c.in-Ok.width ≡ width = cc in
    c.if_within.ensures.same (subst (λ n. 1 ≤ n) (sym same) positive) (subst (λ n. n ≤ 9999) (sym same) within) ∙ ap Some same

pub returns-in-Err-clause-reads : goal.returns-in-Err-clause-reads
returns-in-Err-clause-reads c width positive within written =
    let read = parse-decimal 64 width c.args.word.now c.parse.result (omega arith) (omega arith) written c.parse.ensures.value.0 in
    absurd (cc)
