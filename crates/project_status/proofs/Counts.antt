-- How many of the numbers up to a bound pass.
use Rattle.std.proofs.Common.{◌≡◌, ℕ, zero, suc, ◌+◌, ◌-◌, ◌<◌, ◌≤◌, min, Bool, true, false, cond, ◌||◌, arith, refl, sym, ap, ◌∙◌}
use Rattle.std.proofs.lemmas.Bool.{true≢false}
use Rattle.project_status.specs.Progress.{count_to}

-- one or none
abbrev pub one_if : Bool → ℕ
one_if b = cond b 1 0

-- of no numbers none passes
pub count_none : (p : ℕ → Bool) → count_to 0 p ≡ 0
unfolding count_to
count_none p = refl

-- tests that agree count alike
pub count_same : (p q : ℕ → Bool) → ((n : ℕ) → p n ≡ q n) → (n : ℕ) → count_to n p ≡ count_to n q
unfolding count_to
count_same p q same zero = refl
count_same p q same (suc n) = λ i. count_same p q same n i + one_if (same (suc n) i)

-- one number more is counted
pub count_next : (p : ℕ → Bool) (n : ℕ) → count_to (n + 1) p ≡ count_to n p + one_if (p (n + 1))
unfolding count_to
count_next p n =
    let e : n + 1 ≡ suc n = omega arith in
    ap (λ k. count_to k p) e ∙ ap (λ k. count_to n p + one_if (p k)) (sym e)

-- where nothing above m passes, all that pass are counted up to m
pub count_beyond : (p : ℕ → Bool) (m : ℕ) → ((n : ℕ) → m < n → p n ≡ false) → (k : ℕ) → count_to (k + m) p ≡ count_to m p
unfolding count_to
count_beyond p m none zero = let e : 0 + m ≡ m = omega arith in ap (λ j. count_to j p) e
count_beyond p m none (suc k) =
    let e : suc k + m ≡ suc (k + m) = omega arith in
    let rest = count_beyond p m none k in
    let last : one_if (p (suc (k + m))) ≡ 0 = ap one_if (none (suc (k + m)) (omega arith)) in
    ap (λ j. count_to j p) e ∙ (omega (arith, rest, last))

-- where nothing above m passes, no more than m are counted
pub count_within : (p : ℕ → Bool) (m : ℕ) → ((n : ℕ) → m < n → p n ≡ false) → (n : ℕ) → count_to n p ≤ min n m
unfolding count_to
count_within p m none zero = omega arith
count_within p m none (suc n) = by (count_within p m none n) (p (suc n)) refl
  where
    by : count_to n p ≤ min n m → (b : Bool) → p (suc n) ≡ b → count_to n p + one_if b ≤ min (suc n) m
    by rest false e = omega (arith, rest)
    by rest true e = above (suc n - m) refl
      where
        above : (k : ℕ) → suc n - m ≡ k → count_to n p + 1 ≤ min (suc n) m
        above zero h = omega (arith, rest, h)
        above (suc k) h = absurd (true≢false (sym e ∙ none (suc n) (omega (arith, h))))

-- What a test adds that passes from above `low` to `high`, of what does not pass already: nothing above `low` passed, from
-- `first` on all up to `low` did.
pub count_added : (p q : ℕ → Bool) (low high : ℕ)
    → ((n : ℕ) → p n ≡ true → n ≤ low)
    → ((n : ℕ) → 0 < n → q n ≡ true → (n ≤ high) × (p n ≡ false → low < n))
    → ((n : ℕ) → low < n → n ≤ high → q n ≡ true)
    → (n : ℕ) → count_to n (λ k. p k || q k) ≡ count_to n p + (min n high - low)
unfolding count_to
count_added p q low high below within all zero = omega arith
count_added p q low high below within all (suc n) =
    by (count_added p q low high below within all n) (p (suc n)) refl (q (suc n)) refl
  where
    by : count_to n (λ k. p k || q k) ≡ count_to n p + (min n high - low) → (a : Bool) → p (suc n) ≡ a → (b : Bool) → q (suc n) ≡ b
        → count_to n (λ k. p k || q k) + one_if (a || b) ≡ (count_to n p + one_if a) + (min (suc n) high - low)
    by rest true e b f = let l = below (suc n) e in omega (arith, rest, l)
    by rest false e true f = let w = within (suc n) (omega arith) f in let l = w.1 e in omega (arith, rest, w.0, l)
    by rest false e false f = outside (high - n) refl
      where
        outside : (k : ℕ) → high - n ≡ k → count_to n (λ k. p k || q k) + 0 ≡ (count_to n p + 0) + (min (suc n) high - low)
        outside zero h = omega (arith, rest, h)
        outside (suc k) h = lower (n - low) (suc n - low) refl refl
          where
            lower : (d g : ℕ) → n - low ≡ d → suc n - low ≡ g
                → count_to n (λ k. p k || q k) + 0 ≡ (count_to n p + 0) + (min (suc n) high - low)
            lower d zero hd hg = omega (arith, rest, h, hd, hg)
            lower d (suc g) hd hg = absurd (true≢false (sym (all (suc n) (omega (arith, hg)) (omega (arith, h))) ∙ f))
