-- Texts by their first lines.
use Rattle.std.proofs.Common.{◌≡◌, ◌≢◌, ◌<◌, ◌==◌, ℕ, suc, Bool, true, false, not, ◌||◌, cond, List, [], ◌∷◌, ◌++◌, length, take, drop, ◌+◌, inl, inr, arith, ap, sym, refl, subst, ◌∙◌, append_assoc, append-nil}
use Rattle.std.proofs.Math.Bool.{or-false}
use Rattle.std.proofs.lemmas.Bool.Decides.{nat_tests}
use Rattle.std.proofs.lemmas.List.Folds.{list_any-append}
use Rattle.std.specs.List.{position_or_len, before_first, after_first}
use Rattle.line_editing.specs.Lines.{IsEndedLine, IsFirstLine, LineParts, has_line_feed}

-- whether a byte is an LF
abbrev pub is_lf : ℕ → Bool
is_lf b = b == 10

-- what stands before the first LF has none
pub first_has_none : (text : List ℕ) → has_line_feed (before_first is_lf text) ≡ false
first_has_none [] = refl
first_has_none (b ∷ rest) = by (b == 10) refl (first_has_none rest)
  where
    by : (lf : Bool) → (b == 10) ≡ lf → has_line_feed (before_first is_lf rest) ≡ false
        → has_line_feed (before_first is_lf (b ∷ rest)) ≡ false
    by true e later = grind (arith, nat_tests, e)
    by false e later =
        let place : position_or_len is_lf (b ∷ rest) ≡ suc (position_or_len is_lf rest) = grind (arith, nat_tests) in
        ap (λ n. has_line_feed (take n (b ∷ rest))) place ∙ ap (λ t. t || has_line_feed (before_first is_lf rest)) e ∙ later

-- a text without an LF has none
pub last_has_none : (text : List ℕ) → position_or_len is_lf text ≡ length text → has_line_feed text ≡ false
last_has_none [] h = refl
last_has_none (b ∷ rest) h = by (b == 10) refl (last_has_none rest)
  where
    by : (lf : Bool) → (b == 10) ≡ lf → (position_or_len is_lf rest ≡ length rest → has_line_feed rest ≡ false)
        → has_line_feed (b ∷ rest) ≡ false
    by true e later = grind (arith, nat_tests, e, h)
    by false e later = ap (λ t. t || has_line_feed rest) e ∙ later (grind (arith, nat_tests, e, h))

-- a text with an LF is what stands before it, that, and what stands after it
pub split_at_lf : (text : List ℕ) → position_or_len is_lf text < length text
    → text ≡ before_first is_lf text ++ 10 ∷ after_first is_lf text
split_at_lf [] h = grind arith
split_at_lf (b ∷ rest) h = by (b == 10) refl (split_at_lf rest)
  where
    by : (lf : Bool) → (b == 10) ≡ lf
        → (position_or_len is_lf rest < length rest → rest ≡ before_first is_lf rest ++ 10 ∷ after_first is_lf rest)
        → b ∷ rest ≡ before_first is_lf (b ∷ rest) ++ 10 ∷ after_first is_lf (b ∷ rest)
    by true e later = grind (arith, nat_tests, e)
    by false e later = grind (arith, nat_tests, e, later (grind (arith, nat_tests, e, h)))

-- a front of what has no LF has none
front_has_none : (front back : List ℕ) → has_line_feed (front ++ back) ≡ false → has_line_feed front ≡ false
front_has_none front back h = by (has_line_feed front) (sym (list_any-append is_lf front back) ∙ h)
  where
    by : (b : Bool) → (b || has_line_feed back) ≡ false → b ≡ false
    by true e = e
    by false e = refl

-- a line before an LF, with its end, is the first of the text that begins so
pub ended_is_first : (bytes later : List ℕ) (line : LineParts) → has_line_feed bytes ≡ false → IsEndedLine bytes line
    → IsFirstLine (bytes ++ 10 ∷ later) line later
ended_is_first bytes later line none (inl (end, is)) = record {
  joins = ap (λ t. t ++ 10 ∷ later) is ∙ append_assoc line.body (13 ∷ []) (10 ∷ later)
      ∙ sym (append_assoc line.body (13 ∷ 10 ∷ []) later) ∙ ap (λ t. line.body ++ t ++ later) (sym end);
  one = front_has_none line.body (13 ∷ []) (ap has_line_feed (sym is) ∙ none);
  ends = inl end;
}
ended_is_first bytes later line none (inr (end, is, other)) = record {
  joins = ap (λ t. t ++ 10 ∷ later) is ∙ sym (append_assoc line.body (10 ∷ []) later)
      ∙ ap (λ t. line.body ++ t ++ later) (sym end);
  one = ap has_line_feed (sym is) ∙ none;
  ends = inr (inl (end, λ front e. other front (is ∙ e)));
}

-- so a text with an LF has its first line
pub first_is : (text front later : List ℕ) (line : LineParts) → front ≡ before_first is_lf text → later ≡ after_first is_lf text
    → position_or_len is_lf text < length text → IsEndedLine front line → IsFirstLine text line later
first_is text front later line f l h is =
    subst (λ t. IsFirstLine t line later) (ap (λ x. x ++ 10 ∷ later) f ∙ ap (λ y. before_first is_lf text ++ 10 ∷ y) l
    ∙ sym (split_at_lf text h))
    (ended_is_first front later line (ap has_line_feed f ∙ first_has_none text) is)

-- and one without is its own
pub last_is : (text : List ℕ) → position_or_len is_lf text ≡ length text
    → IsFirstLine text (record { body = text; end = [] }) []
last_is text h = record {
  joins = sym (append-nil (text ++ []) ∙ append-nil text);
  one = last_has_none text h;
  ends = inr (inr (refl, refl));
}
