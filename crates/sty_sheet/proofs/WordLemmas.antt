-- Where a text may be cut: beside a blank.
use Rattle.std.proofs.Common.{◌≡◌, ℕ, suc, ◌+◌, ◌-◌, ◌<◌, ◌≤◌, Bool, true, false, List, [], ◌∷◌, length, reverse, get_or, sym, refl, ap, ◌∙◌, subst, ⊎_elim, arith, IsUtf8, eqb-true, cond, ◌==◌}
use Rattle.std.specs.Prelude.{◌||◌, ◌&&◌, not}
use Rattle.std.proofs.lemmas.List.{get_or-reverse}
use Rattle.std.proofs.lemmas.List.Sums.{prefix_len-le-length, prefix_len_passes, prefix_len_stops, suffix_len-le-length}
use Rattle.std.proofs.lemmas.Str.{IsCharBoundary-start, IsCharBoundary-end, IsCharBoundary-before_ascii, IsCharBoundary-after_ascii}
use Rattle.std.specs.List.{prefix_len, suffix_len}
use Rattle.std.specs.Str.{IsCharBoundary}
use Rattle.std.proofs.str.Laws.{order}
use Rattle.usfm_ref.specs.Numbers.{is_blank}
use Rattle.sty_sheet.specs.Lines.{not_blank, comment_at}

blank_by : (b : ℕ) (p q r s : Bool) → (b == 32) ≡ p → (b == 9) ≡ q → (b == 13) ≡ r → (b == 10) ≡ s → (p || q || r || s) ≡ true → b < 128
blank_by b true q r s hp hq hr hs h = let is = eqb-true b 32 hp in omega arith
blank_by b false true r s hp hq hr hs h = let is = eqb-true b 9 hq in omega arith
blank_by b false false true s hp hq hr hs h = let is = eqb-true b 13 hr in omega arith
blank_by b false false false true hp hq hr hs h = let is = eqb-true b 10 hs in omega arith
blank_by b false false false false hp hq hr hs h = absurd (cc)

blank_ascii : (b : ℕ) → is_blank b ≡ true → b < 128
blank_ascii b h = blank_by b (b == 32) (b == 9) (b == 13) (b == 10) refl refl refl refl h

-- a text may be cut after the blanks at its front
pub boundary_after_blanks : (bs : List ℕ) → IsUtf8 bs → IsCharBoundary bs (prefix_len is_blank bs)
boundary_after_blanks bs utf8 =
    let low : prefix_len is_blank bs ≤ length bs = prefix_len-le-length _ bs in
    ⊎_elim
    (λ some.
    let last : is_blank (get_or bs (prefix_len is_blank bs - 1) 0) ≡ true = prefix_len_passes is_blank bs _ 0 (omega arith) in
    let next : prefix_len is_blank bs - 1 + 1 ≡ prefix_len is_blank bs = omega arith in
    subst (IsCharBoundary bs) next (IsCharBoundary-after_ascii bs _ utf8 (omega arith) (blank_ascii _ last)))
    (λ none. let zero_is : 0 ≡ prefix_len is_blank bs = omega arith in subst (IsCharBoundary bs) zero_is (IsCharBoundary-start bs utf8))
    (order 0 (prefix_len is_blank bs))

not_not : (b : Bool) → not b ≡ false → b ≡ true
not_not true h = refl
not_not false h = absurd (cc)

-- and before its first blank
pub boundary_before_blank : (bs : List ℕ) → IsCharBoundary bs (prefix_len not_blank bs)
boundary_before_blank bs =
    ⊎_elim
    (λ within. IsCharBoundary-before_ascii bs _ within (blank_ascii _ (not_not _ (prefix_len_stops not_blank bs 0 within))))
    (λ past. let low : prefix_len not_blank bs ≤ length bs = prefix_len-le-length _ bs in let end : length bs
    ≡ prefix_len not_blank bs = omega arith in subst (IsCharBoundary bs) end (IsCharBoundary-end bs))
    (order (prefix_len not_blank bs) (length bs))

-- and before the blanks at its end
pub boundary_before_end : (bs : List ℕ) → IsCharBoundary bs (length bs - suffix_len is_blank bs)
boundary_before_end bs =
    let n = suffix_len is_blank bs in
    let low : n ≤ length bs = suffix_len-le-length is_blank bs in
    ⊎_elim
    (λ some.
    let passes : is_blank (get_or (reverse bs) (n - 1) 0) ≡ true = prefix_len_passes is_blank (reverse bs) (n - 1) 0 (omega arith) in
    let place : length bs - 1 - (n - 1) ≡ length bs - n = omega arith in
    let at : get_or (reverse bs) (n - 1) 0 ≡ get_or bs (length bs - n) 0 = get_or-reverse bs (n - 1) 0 (omega arith)
    ∙ ap (λ k. get_or bs k 0) place in
    IsCharBoundary-before_ascii bs (length bs - n) (omega arith) (blank_ascii _ (ap is_blank (sym at) ∙ passes)))
    (λ none. let end : length bs ≡ length bs - n = omega arith in subst (IsCharBoundary bs) end (IsCharBoundary-end bs))
    (order 0 n)

both_true : (p q : Bool) → (p && q) ≡ true → q ≡ true
both_true true q h = h
both_true false q h = absurd (cc)

le_by : (b : ℕ) (bs : List ℕ) (n : ℕ) (t : Bool) → n ≤ length bs → cond t 0 (suc n) ≤ length (b ∷ bs)
le_by b bs n true h = omega arith
le_by b bs n false h = omega arith

comment_le : (may : Bool) (bs : List ℕ) → comment_at may bs ≤ length bs
comment_le may [] = omega arith
comment_le may (b ∷ bs) = le_by b bs (comment_at (is_blank b) bs) (may && b == 35) (comment_le (is_blank b) bs)

stops_by : (b : ℕ) (bs : List ℕ) (n : ℕ) (t : Bool) → (t ≡ true → b ≡ 35) → (n < length bs → get_or bs n 0 ≡ 35)
    → cond t 0 (suc n) < length (b ∷ bs) → get_or (b ∷ bs) (cond t 0 (suc n)) 0 ≡ 35
stops_by b bs n true is rest h = is refl
stops_by b bs n false is rest h = rest (omega arith)

comment_stops : (may : Bool) (bs : List ℕ) → comment_at may bs < length bs → get_or bs (comment_at may bs) 0 ≡ 35
comment_stops may [] h = absurd (omega arith)
comment_stops may (b ∷ bs) h =
    stops_by b bs (comment_at (is_blank b) bs) (may && b == 35) (λ t. eqb-true b 35 (both_true may (b == 35) t))
    (comment_stops (is_blank b) bs) h

-- and before a comment
pub boundary_before_comment : (bs : List ℕ) → IsCharBoundary bs (comment_at true bs)
boundary_before_comment bs =
    ⊎_elim
    (λ within. IsCharBoundary-before_ascii bs _ within (let is = comment_stops true bs within in omega arith))
    (λ past. let low = comment_le true bs in let end : length bs
    ≡ comment_at true bs = omega arith in subst (IsCharBoundary bs) end (IsCharBoundary-end bs))
    (order (comment_at true bs) (length bs))
