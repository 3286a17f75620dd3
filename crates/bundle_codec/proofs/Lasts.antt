-- Ranges with one number more, which is greater than theirs.
use Rattle.std.proofs.Common.{◌≡◌, ◌≢◌, ℕ, zero, suc, ◌+◌, ◌<◌, ◌≤◌, Bool, true, false, cond, ◌||◌, eqb, ltb, List, [], ◌∷◌, ◌++◌, length, get_or, slice_set, refl, sym, ap, ◌∙◌, arith, inl, inr}
use Rattle.std.specs.List.{list_all}
use Rattle.std.proofs.lemmas.Bool.{and_parts, and_from, ltb-true, le-leb, lt-ltb, eqb-true, eq-eqb, ne_eqb, eqb-false, true≢false, cases_lt}
use Rattle.bundle_codec.specs.declared.summaries.range.NumberRange.{NumberRange}
use Rattle.bundle_codec.specs.Summaries.{is_range, are_apart, has_number}
use Rattle.bundle_codec.specs.Loops.SummaryMaking.{with_last, AreRanges}
use Rattle.bundle_codec.proofs.SummaryReads.{range_bounds}
use Rattle.bundle_codec.proofs.Covered.{lies_in, lies_yes, lies_not, lies_bounds}

pub range_from : (r : NumberRange) → 1 ≤ r.first → r.first ≤ r.last → r.last ≤ 1000000000000000 → is_range r ≡ true
range_from r a b c = and_from _ _ (le-leb _ _ a) (and_from _ _ (le-leb _ _ b) (le-leb _ _ c))

abbrev pub one_number : ℕ → NumberRange
one_number n = record { first = n; last = n }

abbrev longer_to : NumberRange → ℕ → NumberRange
longer_to r n = record { first = r.first; last = n }

-- each range ends below a number
abbrev pub AllBelow : ℕ → List NumberRange → Type 0
AllBelow n rs = list_all (λ (r : NumberRange). ltb r.last n) rs ≡ true

abbrev pub AllFrom : ℕ → List NumberRange → Type 0
AllFrom m rs = list_all (λ (r : NumberRange). ltb (suc m) r.first) rs ≡ true

module _ (n : ℕ) (low : 1 ≤ n) (high : n ≤ 1000000000000000) where
  one_is_range : is_range (one_number n) ≡ true
  one_is_range = range_from (one_number n) low (omega arith) high

  longer_is_range : (r : NumberRange) → is_range r ≡ true → r.last < n → is_range (longer_to r n) ≡ true
  longer_is_range r h lt = let b = range_bounds r h in range_from (longer_to r n) b.0 (omega (arith, b.1.0, lt)) high

  pub last_each : (rs : List NumberRange) → list_all is_range rs ≡ true → AllBelow n rs → list_all is_range (with_last rs n) ≡ true
  last_each [] h b = and_from _ _ one_is_range refl
  last_each (r ∷ []) h b =
      let f = and_parts (is_range r) true h in
      let lt = ltb-true _ _ (and_parts (ltb r.last n) true b).0 in
      let one = longer_is_range r f.0 lt in
      let two = one_is_range in
      elim (eqb (suc r.last) n) as (λ c. list_all is_range (cond c (longer_to r n ∷ []) (r ∷ one_number n ∷ [])) ≡ true)
      [ true ↦ and_from _ _ one refl | false ↦ and_from _ _ f.0 (and_from _ _ two refl) ]
  last_each (r ∷ s ∷ rs) h b =
      let f = and_parts (is_range r) (list_all is_range (s ∷ rs)) h in
      let p = and_parts (ltb r.last n) (list_all (λ (x : NumberRange). ltb x.last n) (s ∷ rs)) b in
      and_from _ _ f.0 (last_each (s ∷ rs) f.1 p.1)

  -- what begins above a number goes on to
  last_from : (m : ℕ) (s : NumberRange) (rs : List NumberRange) → list_all is_range (s ∷ rs) ≡ true → AllBelow n (s ∷ rs)
      → AllFrom m (s ∷ rs) → AllFrom m (with_last (s ∷ rs) n)
  last_from m s [] h b a =
      let f = and_parts (is_range s) true h in
      let q = and_parts (ltb (suc m) s.first) true a in
      let lt = ltb-true _ _ (and_parts (ltb s.last n) true b).0 in
      let o = range_bounds s f.0 in
      let on : ltb (suc m) n ≡ true = lt-ltb (suc m) n (omega (arith, ltb-true _ _ q.0, o.1.0, lt)) in
      elim (eqb (suc s.last) n) as (λ c. AllFrom m (cond c (longer_to s n ∷ []) (s ∷ one_number n ∷ [])))
      [ true ↦ and_from _ _ q.0 refl | false ↦ and_from _ _ q.0 (and_from _ _ on refl) ]
  last_from m s (t ∷ rs) h b a =
      let f = and_parts (is_range s) (list_all is_range (t ∷ rs)) h in
      let p = and_parts (ltb s.last n) (list_all (λ (x : NumberRange). ltb x.last n) (t ∷ rs)) b in
      let q = and_parts (ltb (suc m) s.first) (list_all (λ (x : NumberRange). ltb (suc m) x.first) (t ∷ rs)) a in
      and_from _ _ q.0 (last_from m t rs f.1 p.1 q.1)

  pub last_apart : (rs : List NumberRange) → list_all is_range rs ≡ true → AllBelow n rs → are_apart rs ≡ true
      → are_apart (with_last rs n) ≡ true
  last_apart [] h b a = refl
  last_apart (r ∷ []) h b a = by (eqb (suc r.last) n) refl
    where
      by : (c : Bool) → eqb (suc r.last) n ≡ c → are_apart (cond c (longer_to r n ∷ []) (r ∷ one_number n ∷ [])) ≡ true
      by true e = refl
      by false e =
          let lt = ltb-true _ _ (and_parts (ltb r.last n) true b).0 in
          let on : ltb (suc r.last) n ≡ true = lt-ltb (suc r.last) n (omega (arith, eqb-false (suc r.last) n e, lt)) in
          and_from _ _ (and_from _ _ on refl) refl
  last_apart (r ∷ s ∷ rs) h b a =
      let f = and_parts (is_range r) (list_all is_range (s ∷ rs)) h in
      let p = and_parts (ltb r.last n) (list_all (λ (x : NumberRange). ltb x.last n) (s ∷ rs)) b in
      let q = and_parts (list_all (λ (x : NumberRange). ltb (suc r.last) x.first) (s ∷ rs)) (are_apart (s ∷ rs)) a in
      and_from _ _ (last_from r.last s rs f.1 p.1 q.0) (last_apart (s ∷ rs) f.1 p.1 q.1)

  or_same : (b : Bool) (k : ℕ) → (eqb k n || b) ≡ (b || eqb k n)
  or_same true k = elim (eqb k n) as (λ c. (c || true) ≡ true) [ true ↦ refl | false ↦ refl ]
  or_same false k = elim (eqb k n) as (λ c. (c || false) ≡ c) [ true ↦ refl | false ↦ refl ]

  lies_one : (k : ℕ) → lies_in k (one_number n) ≡ eqb k n
  lies_one k = by (eqb k n) refl
    where
      by : (c : Bool) → eqb k n ≡ c → lies_in k (one_number n) ≡ c
      by true e = let same = eqb-true k n e in lies_yes k (one_number n) (omega (arith, same)) (omega (arith, same))
      by false e = let other = eqb-false k n e in lies_not k (one_number n) (λ h. other (omega (arith, h.0, h.1)))

  or_assoc : (a b c : Bool) → (a || (b || c)) ≡ ((a || b) || c)
  or_assoc true b c = refl
  or_assoc false b c = refl

  not_over : {m : ℕ} (k : ℕ) → k ≤ n → (k ≡ n → ⊥) → suc m ≡ n → k ≤ m
  not_over {m = m} k le ne e = elim (cases_lt m k) [ inl lt ↦ absurd (ne (omega (arith, le, lt, e))) | inr more ↦ more ]

  or_right : (b : Bool) → (b || false) ≡ b
  or_right true = refl
  or_right false = refl

  lies_longer : (k : ℕ) (r : NumberRange) → is_range r ≡ true → suc r.last ≡ n → lies_in k (longer_to r n) ≡ (lies_in k r || eqb k n)
  lies_longer k r h e = by (lies_in k r) (eqb k n) (range_bounds r h) refl refl
    where
      by : (c d : Bool) → (1 ≤ r.first) × ((r.first ≤ r.last) × (r.last ≤ 1000000000000000)) → lies_in k r ≡ c → eqb k n ≡ d
          → lies_in k (longer_to r n) ≡ (c || d)
      by true d o f g = let p = lies_bounds k r f in lies_yes k (longer_to r n) p.0 (omega (arith, p.1, e))
      by false true o f g = let same = eqb-true k n g in lies_yes k (longer_to r n) (omega (arith, same, e, o.1.0)) (omega (arith, same))
      by false false o f g =
          let other = eqb-false k n g in
          lies_not k (longer_to r n) (λ p. true≢false (sym (lies_yes k r p.0 (not_over k p.1 other e)) ∙ f))

  pub last_has : (rs : List NumberRange) (k : ℕ) → list_all is_range rs ≡ true
      → has_number (with_last rs n) k ≡ (has_number rs k || eqb k n)
  last_has [] k h = ap (λ c. c || false) (lies_one k) ∙ or_right (eqb k n)
  last_has (r ∷ []) k h = by (eqb (suc r.last) n) refl
    where
      by : (c : Bool) → eqb (suc r.last) n ≡ c
          → has_number (cond c (longer_to r n ∷ []) (r ∷ one_number n ∷ [])) k ≡ (has_number (r ∷ []) k || eqb k n)
      by true e = or_right _ ∙ lies_longer k r (and_parts (is_range r) true h).0 (eqb-true (suc r.last) n e)
          ∙ ap (λ c. c || eqb k n) (sym (or_right (lies_in k r)))
      by false e = ap (λ c. lies_in k r || c) (or_right (lies_in k (one_number n)) ∙ lies_one k)
          ∙ ap (λ c. c || eqb k n) (sym (or_right (lies_in k r)))
  last_has (r ∷ s ∷ rs) k h =
      let f = and_parts (is_range r) (list_all is_range (s ∷ rs)) h in
      ap (λ c. lies_in k r || c) (last_has (s ∷ rs) k f.1) ∙ or_assoc (lies_in k r) (has_number (s ∷ rs) k) (eqb k n)

last_some : (rs : List NumberRange) (n : ℕ) → with_last rs n ≢ []
last_some [] n e = absurd cc
last_some (r ∷ []) n e = by (eqb (suc r.last) n) e
  where
    by : (c : Bool) → cond c (longer_to r n ∷ []) (r ∷ one_number n ∷ []) ≢ []
    by true e = absurd cc
    by false e = absurd cc
last_some (r ∷ s ∷ rs) n e = absurd cc

pub last_ranges : (rs : List NumberRange) (n : ℕ) → 1 ≤ n → n ≤ 1000000000000000 → list_all is_range rs ≡ true → are_apart rs ≡ true
    → AllBelow n rs → AreRanges (with_last rs n)
last_ranges rs n low high each apart b =
    record { some = last_some rs n; each = last_each n low high rs each b; apart = last_apart n low high rs each b apart }

-- ---- in a vector of ranges

pub last_grows : (rs : List NumberRange) (k : ℕ) (r : NumberRange) (n : ℕ) → k + 1 ≡ length rs → r ≡ get_or rs k r → suc r.last ≡ n
    → slice_set rs k (longer_to r n) ≡ with_last rs n
last_grows [] k r n l e h = absurd (omega (arith, l))
last_grows (x ∷ []) zero r n l e h = rw (sym e) (rw (eq-eqb (suc r.last) n h) refl)
last_grows (x ∷ []) (suc k) r n l e h = absurd (omega (arith, l))
last_grows (x ∷ y ∷ rs) zero r n l e h = absurd (omega (arith, l))
last_grows (x ∷ y ∷ rs) (suc k) r n l e h = ap (λ (ys : List NumberRange). x ∷ ys) (last_grows (y ∷ rs) k r n (omega (arith, l)) e h)

pub last_added : (rs : List NumberRange) (k : ℕ) (r : NumberRange) (n : ℕ) → k + 1 ≡ length rs → r ≡ get_or rs k r → (suc r.last ≡ n → ⊥)
    → rs ++ one_number n ∷ [] ≡ with_last rs n
last_added [] k r n l e h = absurd (omega (arith, l))
last_added (x ∷ []) zero r n l e h = rw (sym e) (rw (ne_eqb (suc r.last) n h) refl)
last_added (x ∷ []) (suc k) r n l e h = absurd (omega (arith, l))
last_added (x ∷ y ∷ rs) zero r n l e h = absurd (omega (arith, l))
last_added (x ∷ y ∷ rs) (suc k) r n l e h = ap (λ (ys : List NumberRange). x ∷ ys) (last_added (y ∷ rs) k r n (omega (arith, l)) e h)

pub first_added : (rs : List NumberRange) (n : ℕ) → length rs ≡ 0 → rs ++ one_number n ∷ [] ≡ with_last rs n
first_added [] n l = refl
first_added (x ∷ rs) n l = absurd (omega (arith, l))
