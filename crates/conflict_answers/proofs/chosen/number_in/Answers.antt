use Rattle.std.proofs.Common.{◌≡◌, ◌∙◌, ℕ, List, Some, IfSome, true, false, codes, sym, ap, subst}
use Rattle.std.specs.Fmt.{decimal}
use Rattle.std.specs.Str.{IsUtf8}
use Rattle.conflict_answers.proofs.Lines.{only_zero, zero_is}
use Rattle.conflict_answers.proofs.Plain.{decimal_plain, plain_utf8}
use Rattle.conflict_answers.proofs.Readers.{above_0, missed}
use Rattle.conflict_answers.proofs.chosen.number_in.Goals as goal

pub returns-in_err-text-clause-only : goal.returns-in_err-text-clause-only
returns-in_err-text-clause-only c number short is =
    absurd
    (missed (λ t. t.now) c.text.result c.args.digits.now c.in_err-text.was
    (c.text.ensures.only (subst IsUtf8 (sym is) (plain_utf8 (decimal number) (decimal_plain number short)))))

pub returns-then-is_zero-clause-reads : goal.returns-then-is_zero-clause-reads
returns-then-is_zero-clause-reads c =
    sym c.in_ok-text.ensures.same ∙ (c.is_zero.ensures.yes c.if-is_zero.true ∙ sym zero_is)

pub returns-then-is_zero-clause-only : goal.returns-then-is_zero-clause-only
returns-then-is_zero-clause-only c number short is =
    ap Some (only_zero number short (sym (c.is_zero.ensures.yes c.if-is_zero.true) ∙ (c.in_ok-text.ensures.same ∙ is)))

pub returns-clause-reads : goal.returns-clause-reads
returns-clause-reads c =
    subst (λ (bs : List ℕ). IfSome c.number_from_1.result (λ n. bs ≡ decimal n)) c.in_ok-text.ensures.same c.number_from_1.ensures.reads

pub returns-clause-only : goal.returns-clause-only
returns-clause-only c number short is =
    let text = c.in_ok-text.text.now in
    let told : text ≡ decimal number = c.in_ok-text.ensures.same ∙ is in
    let unlike : text ≡ codes "0" → ⊥ = λ e. let both : false ≡ true = sym c.if-is_zero.false ∙ c.is_zero.ensures.no e in cc in
    c.number_from_1.ensures.only number (above_0 number text unlike told) short told
