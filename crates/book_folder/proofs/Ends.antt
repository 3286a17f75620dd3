-- Texts by their lines.
use Rattle.std.proofs.Common.{◌≡◌, ◌≢◌, ◌<◌, ◌==◌, ℕ, Bool, true, false, List, [], ◌∷◌, ◌++◌, length, arith, ap, sym, refl, ◌∙◌, suc, take, drop, ◌+◌}
use Rattle.std.proofs.lemmas.Bool.Decides.{nat_tests}
use Rattle.std.specs.List.{position_or_len, before_first, after_first}
use Rattle.book_folder.specs.Likes.{without_cr, with_ends, without_last_cr}

-- whether a byte is an LF
abbrev pub is_lf : ℕ → Bool
is_lf b = b == 10

-- the line before a text's first LF, without a CR at its end, and then the line's end and what follows
pub with_ends_line : (end text : List ℕ) → position_or_len is_lf text < length text →
    with_ends end text
    ≡ without_last_cr (before_first is_lf text) ++ end ++ with_ends end (after_first is_lf text)
unfolding without_cr without_last_cr
with_ends_line end [] h = grind arith
with_ends_line end (b ∷ []) h = grind (arith, nat_tests)
with_ends_line end (b ∷ c ∷ rest) h = by (b == 10) (b == 13) (c == 10) refl refl refl (with_ends_line end (c ∷ rest))
  where
    Holds : List ℕ → Type 0
    Holds text = position_or_len is_lf text < length text →
        with_ends end text
        ≡ without_last_cr (before_first is_lf text) ++ end ++ with_ends end (after_first is_lf text)

    by : (lf cr next : Bool) → (b == 10) ≡ lf → (b == 13) ≡ cr → (c == 10) ≡ next → Holds (c ∷ rest) →
        with_ends end (b ∷ c ∷ rest)
        ≡ without_last_cr (before_first is_lf (b ∷ c ∷ rest)) ++ end ++ with_ends end (after_first is_lf (b ∷ c ∷ rest))
    by true cr next e f g later = grind (arith, nat_tests)
    by false true true e f g later = grind (arith, nat_tests, later)
    by false false true e f g later = grind (arith, nat_tests, later)
    by false cr false e f g later =
        let here : with_ends end (b ∷ c ∷ rest) ≡ b ∷ with_ends end (c ∷ rest) = grind (arith, nat_tests) in
        let place : position_or_len is_lf (b ∷ c ∷ rest) ≡ suc (position_or_len is_lf (c ∷ rest)) = grind (arith, nat_tests) in
        let next : position_or_len is_lf (c ∷ rest) ≡ suc (position_or_len is_lf rest) = grind (arith, nat_tests) in
        let line : without_last_cr (before_first is_lf (b ∷ c ∷ rest))
        ≡ b ∷ without_last_cr (before_first is_lf (c ∷ rest)) =
        ap (λ n. without_last_cr (take n (b ∷ c ∷ rest))) (place ∙ ap suc next)
        ∙ sym (ap (λ n. b ∷ without_last_cr (take n (c ∷ rest))) next) in
        let beyond : position_or_len is_lf (b ∷ c ∷ rest) + 1 ≡ suc (position_or_len is_lf (c ∷ rest) + 1) = omega (arith, place) in
        let after : after_first is_lf (b ∷ c ∷ rest) ≡ after_first is_lf (c ∷ rest) =
        ap (λ n. drop n (b ∷ c ∷ rest)) beyond in
        let more : position_or_len is_lf (c ∷ rest) < length (c ∷ rest) = grind (arith, nat_tests, h) in
        here ∙ ap (λ t. b ∷ t) (later more)
        ∙ sym (ap (λ front. front ++ end ++ with_ends end (after_first is_lf (b ∷ c ∷ rest))) line
        ∙ ap (λ t. b ∷ (without_last_cr (before_first is_lf (c ∷ rest)) ++ end ++ with_ends end t)) after)

-- a text without an LF has one line
pub with_ends_last : (end text : List ℕ) → position_or_len is_lf text ≡ length text → with_ends end text ≡ text
unfolding without_cr
with_ends_last end [] h = grind arith
with_ends_last end (b ∷ []) h = grind (arith, nat_tests)
with_ends_last end (b ∷ c ∷ rest) h = grind (arith, nat_tests, with_ends_last end (c ∷ rest))

-- a line that ends with a CR loses it
pub without_last_cr_ends : (front : List ℕ) → without_last_cr (front ++ 13 ∷ []) ≡ front
unfolding without_last_cr
without_last_cr_ends [] = refl
without_last_cr_ends (b ∷ []) = refl
without_last_cr_ends (b ∷ c ∷ rest) = ap (λ t. b ∷ t) (without_last_cr_ends (c ∷ rest))

-- another one stays
pub without_last_cr_stays : (line : List ℕ) → ((front : List ℕ) → line ≢ front ++ 13 ∷ []) → without_last_cr line ≡ line
unfolding without_last_cr
without_last_cr_stays [] other = refl
without_last_cr_stays (b ∷ []) other = by (b == 13) refl
  where
    by : (is : Bool) → (b == 13) ≡ is → without_last_cr (b ∷ []) ≡ b ∷ []
    by true e = absurd (other [] (ap (λ n. n ∷ []) (grind (arith, nat_tests, e))))
    by false e = grind (arith, nat_tests, e)
without_last_cr_stays (b ∷ c ∷ rest) other =
    ap (λ t. b ∷ t) (without_last_cr_stays (c ∷ rest) (λ front e. other (b ∷ front) (ap (λ t. b ∷ t) e)))
