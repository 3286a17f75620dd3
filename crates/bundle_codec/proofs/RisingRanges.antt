-- The ranges of rising numbers, as a summary has them.
use Rattle.std.proofs.Common.{◌≡◌, ◌≢◌, ℕ, suc, ◌<◌, ◌≤◌, Bool, true, false, cond, ◌||◌, eqb, leb, ltb, List, [], ◌∷◌, refl, sym, ap, ◌∙◌, arith, inl, inr}
use Rattle.std.specs.List.{list_all, list_any, AllByRecursion}
use Rattle.std.proofs.lemmas.Bool.{and_parts, and_from, leb-true, ltb-true, lt-ltb, eqb-true, eqb-false, true≢false, cases_lt}
use Rattle.usfm_ref.specs.Rising.{rising}
use Rattle.op_core.specs.Ids.{is_number}
use Rattle.bundle_codec.specs.declared.summaries.range.NumberRange.{NumberRange}
use Rattle.bundle_codec.specs.Summaries.{is_range, are_apart, has_number, with_first, ranges_of}
use Rattle.bundle_codec.proofs.SummaryReads.{range_bounds}
use Rattle.bundle_codec.proofs.Lasts.{range_from, one_number}
use Rattle.bundle_codec.proofs.Covered.{lies_in, lies_yes, lies_bounds, lies_not}

-- ---- ranges of rising numbers

-- all are above a number
abbrev pub Over : ℕ → List ℕ → Type 0
Over n ns = list_all (λ m. ltb n m) ns ≡ true

-- each is above those before it, and from 1 to 10^15
abbrev pub AreNumbers : List ℕ → Type 0
AreNumbers [] = Unit {0}
AreNumbers (n ∷ ns) = (is_number n ≡ true) × (Over n ns × AreNumbers ns)

-- ranges that begin above a number
abbrev pub From : ℕ → List NumberRange → Type 0
From n rs = list_all (λ (r : NumberRange). ltb n r.first) rs ≡ true

-- the ranges that are made of rising numbers
pub record Made (ns : List ℕ) (rs : List NumberRange) : Type 0 where
  pub each : list_all is_range rs ≡ true
  pub apart : are_apart rs ≡ true
  pub from : (n : ℕ) → Over n ns → From n rs

or_assoc : (a b c : Bool) → ((a || b) || c) ≡ (a || (b || c))
or_assoc true b c = refl
or_assoc false b c = refl

lies_one : (n k : ℕ) → lies_in k (one_number n) ≡ eqb k n
lies_one n k = by (eqb k n) refl
  where
    by : (c : Bool) → eqb k n ≡ c → lies_in k (one_number n) ≡ c
    by true e = let same = eqb-true k n e in lies_yes k (one_number n) (omega (arith, same)) (omega (arith, same))
    by false e = let other = eqb-false k n e in lies_not k (one_number n) (λ h. other (omega (arith, h.0, h.1)))

over : (n k m : ℕ) → n ≤ k → (k ≡ n → ⊥) → suc n ≡ m → m ≤ k
over n k m le ne e = elim (cases_lt n k) [ inl lt ↦ omega (arith, lt, e) | inr more ↦ absurd (ne (omega (arith, le, more))) ]

-- one number before a range that it touches
lies_longer : (n k : ℕ) (r : NumberRange) → r.first ≤ r.last → suc n ≡ r.first
    → lies_in k (record { first = n; last = r.last }) ≡ (eqb k n || lies_in k r)
lies_longer n k r h e = by (eqb k n) (lies_in k r) refl refl
  where
    by : (c d : Bool) → eqb k n ≡ c → lies_in k r ≡ d → lies_in k (record { first = n; last = r.last }) ≡ (c || d)
    by true d g f =
        let same = eqb-true k n g in lies_yes k (record { first = n; last = r.last }) (omega (arith, same)) (omega (arith, same, e, h))
    by false true g f = let p = lies_bounds k r f in lies_yes k (record { first = n; last = r.last }) (omega (arith, p.0, e)) p.1
    by false false g f =
        let other = eqb-false k n g in
        lies_not k (record { first = n; last = r.last }) (λ p. true≢false (sym (lies_yes k r (over n k r.first p.0 other e) p.1) ∙ f))

-- each range begins no later than it ends
abbrev AreOrdered : List NumberRange → Type 0
AreOrdered rs = AllByRecursion (λ (r : NumberRange). r.first ≤ r.last) rs

ordered_first : (n : ℕ) (rs : List NumberRange) → AreOrdered rs → AreOrdered (with_first n rs)
ordered_first n [] h = (omega arith, tt)
ordered_first n (r ∷ rs) h = by (eqb (suc n) r.first) refl
  where
    by : (c : Bool) → eqb (suc n) r.first ≡ c → AreOrdered (cond c (record { first = n; last = r.last } ∷ rs) (one_number n ∷ r ∷ rs))
    by true e = let touch = eqb-true (suc n) r.first e in (omega (arith, touch, h.0), h.1)
    by false e = (omega arith, h)

has_first : (n k : ℕ) (rs : List NumberRange) → AreOrdered rs → has_number (with_first n rs) k ≡ (eqb k n || has_number rs k)
has_first n k [] h = ap (λ b. b || false) (lies_one n k)
has_first n k (r ∷ rs) h = by (eqb (suc n) r.first) refl
  where
    by : (c : Bool) → eqb (suc n) r.first ≡ c
        → has_number (cond c (record { first = n; last = r.last } ∷ rs) (one_number n ∷ r ∷ rs)) k ≡ (eqb k n || has_number (r ∷ rs) k)
    by true e =
        ap (λ b. b || has_number rs k) (lies_longer n k r h.0 (eqb-true (suc n) r.first e))
        ∙ or_assoc (eqb k n) (lies_in k r) (has_number rs k)
    by false e = ap (λ b. b || has_number (r ∷ rs) k) (lies_one n k)

ordered : (ns : List ℕ) → AreOrdered (ranges_of ns)
ordered [] = tt
ordered (n ∷ ns) = ordered_first n (ranges_of ns) (ordered ns)

-- the ranges of some numbers have these, and no others
pub have_numbers : (ns : List ℕ) (k : ℕ) → has_number (ranges_of ns) k ≡ list_any (eqb k) ns
have_numbers [] k = refl
have_numbers (n ∷ ns) k = has_first n k (ranges_of ns) (ordered ns) ∙ ap (λ b. eqb k n || b) (have_numbers ns k)

from_more : (n m : ℕ) (rs : List NumberRange) → n ≤ m → From m rs → From n rs
from_more n m [] le h = refl
from_more n m (r ∷ rs) le h =
    let p = and_parts (ltb m r.first) (list_all (λ (x : NumberRange). ltb m x.first) rs) h in
    and_from _ _ (lt-ltb n r.first (omega (arith, le, ltb-true _ _ p.0))) (from_more n m rs le p.1)

-- ranges after the first are more than one above a number that the first does not touch
apart_from : (n : ℕ) (r : NumberRange) (rs : List NumberRange) → is_range r ≡ true → ltb n r.first ≡ true → (suc n ≡ r.first → ⊥)
    → list_all (λ (s : NumberRange). ltb (suc r.last) s.first) rs ≡ true
    → list_all (λ (s : NumberRange). ltb (suc n) s.first) (r ∷ rs) ≡ true
apart_from n r rs h lt ne after =
    let b = range_bounds r h in
    and_from _ _ (lt-ltb (suc n) r.first (gap n r.first (ltb-true _ _ lt) ne))
    (from_more (suc n) (suc r.last) rs (omega (arith, ltb-true _ _ lt, b.1.0)) after)
  where
    gap : (n m : ℕ) → n < m → (suc n ≡ m → ⊥) → suc n < m
    gap n m lt ne = elim (cases_lt (suc n) m) [ inl more ↦ more | inr le ↦ absurd (ne (omega (arith, lt, le))) ]

number_bounds : (n : ℕ) → is_number n ≡ true → (1 ≤ n) × (n ≤ 1000000000000000)
number_bounds n h = let p = and_parts (leb 1 n) (leb n 1000000000000000) h in (leb-true _ _ p.0, leb-true _ _ p.1)

made_first : (n : ℕ) (ns : List ℕ) (rs : List NumberRange) → is_number n ≡ true → Over n ns → Made ns rs → Made (n ∷ ns) (with_first n rs)
made_first n ns [] num over m =
    let b = number_bounds n num in
    record {
      each = and_from _ _ (range_from (one_number n) b.0 (omega arith) b.1) refl;
      apart = refl;
      from = λ k h. and_from _ _ (and_parts (ltb k n) (list_all (λ x. ltb k x) ns) h).0 refl;
    }
made_first n ns (r ∷ rs) num over m = by (eqb (suc n) r.first) refl
  where
    by : (c : Bool) → eqb (suc n) r.first ≡ c → Made (n ∷ ns) (cond c (record { first = n; last = r.last } ∷ rs) (one_number n ∷ r ∷ rs))
    by true e =
        let b = number_bounds n num in
        let touch = eqb-true (suc n) r.first e in
        let f = and_parts (is_range r) (list_all is_range rs) m.each in
        let o = range_bounds r f.0 in
        let a = and_parts (list_all (λ (s : NumberRange). ltb (suc r.last) s.first) rs) (are_apart rs) m.apart in
        record {
          each = and_from _ _ (range_from (record { first = n; last = r.last }) b.0 (omega (arith, touch, o.1.0)) o.1.1) f.1;
          apart = and_from _ _ a.0 a.1;
          from = λ k h.
              let p = and_parts (ltb k n) (list_all (λ x. ltb k x) ns) h in
              and_from _ _ p.0 (and_parts (ltb k r.first) (list_all (λ (x : NumberRange). ltb k x.first) rs) (m.from k p.1)).1;
        }
    by false e =
        let b = number_bounds n num in
        let ne = eqb-false (suc n) r.first e in
        let f = and_parts (is_range r) (list_all is_range rs) m.each in
        let a = and_parts (list_all (λ (s : NumberRange). ltb (suc r.last) s.first) rs) (are_apart rs) m.apart in
        let above = and_parts (ltb n r.first) (list_all (λ (x : NumberRange). ltb n x.first) rs) (m.from n over) in
        record {
          each = and_from _ _ (range_from (one_number n) b.0 (omega arith) b.1) m.each;
          apart = and_from _ _ (apart_from n r rs f.0 above.0 ne a.0) m.apart;
          from = λ k h. let p = and_parts (ltb k n) (list_all (λ x. ltb k x) ns) h in and_from _ _ p.0 (m.from k p.1);
        }

pub made : (ns : List ℕ) → AreNumbers ns → Made ns (ranges_of ns)
made [] h = record { each = refl; apart = refl; from = λ n o. refl }
made (n ∷ ns) h = made_first n ns (ranges_of ns) h.0 h.1.0 (made ns h.1.1)

with_first_some : (n : ℕ) (rs : List NumberRange) → with_first n rs ≢ []
with_first_some n [] e = absurd cc
with_first_some n (r ∷ rs) e = by (eqb (suc n) r.first) e
  where
    by : (c : Bool) → cond c (record { first = n; last = r.last } ∷ rs) (one_number n ∷ r ∷ rs) ≢ []
    by true e = absurd cc
    by false e = absurd cc

pub ranges_some : (ns : List ℕ) → ns ≢ [] → ranges_of ns ≢ []
ranges_some [] some = absurd (some refl)
ranges_some (n ∷ ns) some = with_first_some n (ranges_of ns)
