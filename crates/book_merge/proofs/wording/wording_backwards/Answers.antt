use Rattle.std.proofs.Common.{◌≡◌, ◌-◌, false, true, List, ℕ, length, get_or, reverse, arith, refl, sym, ap, ◌∙◌}
use Rattle.book_merge.specs.Wordings.{says_nothing}
use Rattle.book_merge.proofs.WordingSteps.{none_left, step, pushed, passed}
use Rattle.book_merge.proofs.wording.wording_backwards.Goals as goal

pub bytes-preserved-in_ok-push : goal.bytes-preserved-in_ok-push
bytes-preserved-in_ok-push c =
    let left = c.bytes.left.now in
    let made = c.bytes.made.items in
    let b = get_or left (length left - 1) 0 in
    let says : says_nothing b (reverse made) ≡ false =
    ap (λ (t : List ℕ). says_nothing b (reverse t)) (sym c.deref.ensures.value) ∙ sym c.says_nothing.ensures ∙ c.if-not-says_nothing.true in
    step left (reverse made) (reverse c.push.new.self.items) b (omega (arith, c.in-len1-up.len_at_least)) refl
    (pushed made c.push.new.self.items b c.in_ok-push.ensures.items says)
    ∙ c.bytes.invariant

pub bytes-preserved : goal.bytes-preserved
bytes-preserved c =
    let left = c.bytes.left.now in
    let made = c.bytes.made.items in
    let b = get_or left (length left - 1) 0 in
    let says : says_nothing b (reverse made) ≡ true =
    ap (λ (t : List ℕ). says_nothing b (reverse t)) (sym c.deref.ensures.value) ∙ sym c.says_nothing.ensures
    ∙ c.if-not-says_nothing.false in
    step left (reverse made) (reverse made) b (omega (arith, c.in-len1-up.len_at_least)) refl (passed made b says) ∙ c.bytes.invariant

pub returns : goal.returns
returns c = sym (none_left c.bytes.left.now (reverse c.bytes.made.items) (omega (arith, c.in_default.len_below))) ∙ c.bytes.invariant
