use Rattle.std.proofs.Common.{◌∷◌, ◌++◌, ◌∙◌, ℕ, List, Some, ap, sym, subst, length}
use Rattle.std.specs.Fmt.{decimal}
use Rattle.std.specs.Str.{IsUtf8}
use Rattle.conflict_answers.specs.Loops.Cuts.{both_now}
use Rattle.conflict_answers.proofs.Choices.{same_parts}
use Rattle.conflict_answers.proofs.Readers.{counted_told, missed, none_is, number_lacks, some_is}
use Rattle.conflict_answers.proofs.chosen.counted_at.Goals as goal

pub returns-in_err-digits-clause-only : goal.returns-in_err-digits-clause-only
returns-in_err-digits-clause-only c text rest is e =
    let digits = decimal (length text) in
    absurd
    (missed both_now c.told_by.result (digits, text ++ 10 ∷ rest) c.in_err-digits.was
    (c.told_by.ensures.only digits (text ++ 10 ∷ rest) (number_lacks (length text) is.short)
    (e ∙ counted_told c.args.word.now text rest)))

pub returns-in_err-len-clause-only : goal.returns-in_err-len-clause-only
returns-in_err-len-clause-only c text rest is e =
    let digits = decimal (length text) in
    let line = same_parts c.in_ok-digits.digits.now digits c.in_ok-digits.after.now (text ++ 10 ∷ rest)
    (c.in_ok-digits.ensures.only digits (text ++ 10 ∷ rest) (number_lacks (length text) is.short)
    (e ∙ counted_told c.args.word.now text rest)) in
    absurd (none_is c.number_in.result (length text) c.in_err-len.was (c.number_in.ensures.only (length text) is.short line.0))

pub returns-in_err-front-clause-only : goal.returns-in_err-front-clause-only
returns-in_err-front-clause-only c text rest is e =
    let digits = decimal (length text) in
    let line = same_parts c.in_ok-digits.digits.now digits c.in_ok-digits.after.now (text ++ 10 ∷ rest)
    (c.in_ok-digits.ensures.only digits (text ++ 10 ∷ rest) (number_lacks (length text) is.short)
    (e ∙ counted_told c.args.word.now text rest)) in
    let long = sym (some_is c.in_ok-len.len (length text) (c.in_ok-len.ensures.only (length text) is.short line.0)) in
    absurd (missed both_now c.counted.result (text, rest) c.in_err-front.was (c.counted.ensures.only text rest long line.1))

pub returns-in_err-text-clause-only : goal.returns-in_err-text-clause-only
returns-in_err-text-clause-only c text rest is e =
    let digits = decimal (length text) in
    let line = same_parts c.in_ok-digits.digits.now digits c.in_ok-digits.after.now (text ++ 10 ∷ rest)
    (c.in_ok-digits.ensures.only digits (text ++ 10 ∷ rest) (number_lacks (length text) is.short)
    (e ∙ counted_told c.args.word.now text rest)) in
    let long = sym (some_is c.in_ok-len.len (length text) (c.in_ok-len.ensures.only (length text) is.short line.0)) in
    let front = same_parts c.in_ok-front.front.now text c.in_ok-front.rest.now rest
    (c.in_ok-front.ensures.only text rest long line.1) in
    absurd
    (missed (λ t. t.now) c.text.result c.in_ok-front.front.now c.in_err-text.was
    (c.text.ensures.only (subst IsUtf8 (sym front.0) is.utf8)))

pub returns-clause-spelled : goal.returns-clause-spelled
returns-clause-spelled c =
    let text = c.in_ok-text.text.now in
    let below = c.in_ok-front.ensures.counted ∙ ap (λ (bs : List ℕ). bs ++ 10 ∷ c.in_ok-front.rest.now) (sym c.in_ok-text.ensures.same) in
    let long = ap length c.in_ok-text.ensures.same ∙ c.in_ok-front.ensures.many in
    let digits = c.in_ok-len.ensures.reads ∙ ap decimal (sym long) in
    c.in_ok-digits.ensures.told ∙ (λ i. c.args.word.now ++ 32 ∷ (digits i ++ 10 ∷ below i))
    ∙ sym (counted_told c.args.word.now text c.in_ok-front.rest.now)

pub returns-clause-only : goal.returns-clause-only
returns-clause-only c text rest is e =
    let digits = decimal (length text) in
    let line = same_parts c.in_ok-digits.digits.now digits c.in_ok-digits.after.now (text ++ 10 ∷ rest)
    (c.in_ok-digits.ensures.only digits (text ++ 10 ∷ rest) (number_lacks (length text) is.short)
    (e ∙ counted_told c.args.word.now text rest)) in
    let long = sym (some_is c.in_ok-len.len (length text) (c.in_ok-len.ensures.only (length text) is.short line.0)) in
    let front = same_parts c.in_ok-front.front.now text c.in_ok-front.rest.now rest
    (c.in_ok-front.ensures.only text rest long line.1) in
    let same = c.in_ok-text.ensures.same ∙ front.0 in
    λ i. Some (same i, front.1 i)
