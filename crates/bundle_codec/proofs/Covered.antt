-- Whether an id's number lies in a range of its name.
use Rattle.std.proofs.Common.{◌≡◌, ℕ, zero, suc, ◌+◌, ◌<◌, ◌≤◌, Bool, true, false, ◌&&◌, ◌||◌, leb, ltb, List, [], ◌∷◌, length, get_or, Option, Some, None, refl, sym, ap, subst, ◌∙◌, arith, inl, inr}
use Rattle.std.specs.List.{list_all, list_any, find}
use Rattle.std.specs.Ordering.{is_eq, is_lt}
use Rattle.std.proofs.lemmas.Bool.{and_parts, and_from, leb-true, ltb-true, le-leb, cases_lt}
use Rattle.std.proofs.lemmas.List.{get_or_default}
use Rattle.usfm_ref.specs.Books.{same_bytes}
use Rattle.std.specs.Cmp.Lexicographic.{texts_ties}
use Rattle.std.proofs.Math.Bool.{or-false}
use Rattle.usfm_ref.specs.Rising.{rises_by}
use Rattle.usfm_ref.proofs.Orders.{same_bytes-is}
use Rattle.usfm_ref.proofs.Sorted.{is_less, tied_back}
use Rattle.op_core.specs.Names.{name_cmp}
use Rattle.op_core.specs.Ids.{Id}
use Rattle.bundle_codec.specs.declared.summaries.range.NumberRange.{NumberRange}
use Rattle.bundle_codec.specs.Summaries.{NameRanges, is_range, are_apart, has_number, covers}
use Rattle.bundle_codec.proofs.SummaryReads.{range_bounds, name_total}

-- ---- a number among ranges

abbrev pub lies_in : ℕ → NumberRange → Bool
lies_in n r = leb r.first n && leb n r.last

pub lies_yes : (n : ℕ) (r : NumberRange) → r.first ≤ n → n ≤ r.last → lies_in n r ≡ true
lies_yes n r a b = and_from _ _ (le-leb r.first n a) (le-leb n r.last b)

pub lies_bounds : (n : ℕ) (r : NumberRange) → lies_in n r ≡ true → (r.first ≤ n) × (n ≤ r.last)
lies_bounds n r h = let p = and_parts (leb r.first n) (leb n r.last) h in (leb-true _ _ p.0, leb-true _ _ p.1)

pub lies_not : (n : ℕ) (r : NumberRange) → ((r.first ≤ n) × (n ≤ r.last) → ⊥) → lies_in n r ≡ false
lies_not n r out = by (lies_in n r) refl
  where
    by : (b : Bool) → lies_in n r ≡ b → b ≡ false
    by true e = absurd (out (lies_bounds n r e))
    by false e = refl

pub any_at : {A : Type 0} (p : A → Bool) (xs : List A) (k : ℕ) (x : A) → k < length xs → x ≡ get_or xs k x → p x ≡ true
    → list_any p xs ≡ true
any_at p [] k x lt e h = absurd (omega (arith, lt))
any_at p (y ∷ ys) zero x lt e h = rw (sym (ap p e) ∙ h) refl
any_at p (y ∷ ys) (suc k) x lt e h =
    let rest = any_at p ys k x (omega (arith, lt)) e h in elim (p y) as (λ b. (b || list_any p ys) ≡ true) [ true ↦ refl | false ↦ rest ]

pub any_none : {A : Type 0} (p : A → Bool) (xs : List A) → ((k : ℕ) (d : A) → k < length xs → p (get_or xs k d) ≡ false)
    → list_any p xs ≡ false
any_none p [] h = refl
any_none p (x ∷ xs) h = rw (h 0 x (omega arith)) (any_none p xs (λ k d lt. h (suc k) d (omega (arith, lt))))

range_at_place : (rs : List NumberRange) (k : ℕ) (d : NumberRange) → list_all is_range rs ≡ true → k < length rs
    → is_range (get_or rs k d) ≡ true
range_at_place [] k d h lt = absurd (omega (arith, lt))
range_at_place (r ∷ rs) zero d h lt = (and_parts (is_range r) (list_all is_range rs) h).0
range_at_place (r ∷ rs) (suc k) d h lt = range_at_place rs k d (and_parts (is_range r) (list_all is_range rs) h).1 (omega (arith, lt))

above_at : (n : ℕ) (rs : List NumberRange) (k : ℕ) (d : NumberRange) → list_all (λ (s : NumberRange). ltb (suc n) s.first) rs ≡ true
    → k < length rs → suc n < (get_or rs k d).first
above_at n [] k d h lt = absurd (omega (arith, lt))
above_at n (r ∷ rs) zero d h lt =
    ltb-true _ _ (and_parts (ltb (suc n) r.first) (list_all (λ (s : NumberRange). ltb (suc n) s.first) rs) h).0
above_at n (r ∷ rs) (suc k) d h lt =
    above_at n rs k d (and_parts (ltb (suc n) r.first) (list_all (λ (s : NumberRange). ltb (suc n) s.first) rs) h).1 (omega (arith, lt))

-- an earlier range ends before a later one begins
apart_at : (rs : List NumberRange) (k j : ℕ) (d e : NumberRange) → are_apart rs ≡ true → k < j → j < length rs
    → (get_or rs k d).last < (get_or rs j e).first
apart_at [] k j d e h lt l = absurd (omega (arith, l))
apart_at (r ∷ rs) k zero d e h lt l = absurd (omega (arith, lt))
apart_at (r ∷ rs) zero (suc j) d e h lt l =
    let p = and_parts (list_all (λ (s : NumberRange). ltb (suc r.last) s.first) rs) (are_apart rs) h in
    omega (arith, above_at r.last rs j e p.0 (omega (arith, l)))
apart_at (r ∷ rs) (suc k) (suc j) d e h lt l = apart_at rs k j d e
    (and_parts (list_all (λ (s : NumberRange). ltb (suc r.last) s.first) rs) (are_apart rs) h).1 (omega (arith, lt)) (omega (arith, l))

-- the number lies in no range before `low` or from `high` on
pub record Between (n : ℕ) (rs : List NumberRange) (low high : ℕ) : Type 0 where
  pub ordered : low ≤ high
  pub within : high ≤ length rs
  pub below : (k : ℕ) (d : NumberRange) → k < low → (get_or rs k d).last < n
  pub above : (k : ℕ) (d : NumberRange) → high ≤ k → k < length rs → n < (get_or rs k d).first

module _ (n : ℕ) (rs : List NumberRange) where
  pub between_all : Between n rs 0 (length rs)
  between_all =
      record {
        ordered = omega arith;
        within = omega arith;
        below = λ k d lt. absurd (omega (arith, lt));
        above = λ k d le lt. absurd (omega (arith, le, lt));
      }

  module _ (each : list_all is_range rs ≡ true) (apart : are_apart rs ≡ true) (low high middle : ℕ) (d0 : NumberRange)
      (b : Between n rs low high) (le : low ≤ middle) (lt : middle < high) where
    abbrev r : NumberRange
    r = get_or rs middle d0

    is : r ≡ get_or rs middle r
    is = get_or_default rs middle d0 r (omega (arith, lt, b.within))

    pub between_low : r.last < n → Between n rs (middle + 1) high
    between_low over = record {
      ordered = omega (arith, lt);
      within = b.within;
      below = λ k d m. elim (cases_lt k middle) [
        | inl less ↦
            let p = apart_at rs k middle d r apart less (omega (arith, lt, b.within)) in
            let q = range_bounds (get_or rs middle r) (range_at_place rs middle r each (omega (arith, lt, b.within))) in
            let same : r.last ≡ (get_or rs middle r).last = ap (λ (x : NumberRange). x.last) is in
            omega (arith, p, q.1.0, same, over)
        | inr more ↦
            let here : middle ≡ k = omega (arith, m, more) in
            let same : r.last ≡ (get_or rs k d).last = ap (λ (x : NumberRange). x.last)
            (is ∙ get_or_default rs middle r d (omega (arith, lt, b.within)) ∙ ap (λ j. get_or rs j d) here) in
            omega (arith, same, over)
      ];
      above = b.above;
    }

    pub between_high : n < r.first → Between n rs low middle
    between_high under = record {
      ordered = le;
      within = omega (arith, lt, b.within);
      below = b.below;
      above = λ k d m l. elim (cases_lt middle k) [
        | inl more ↦
            let p = apart_at rs middle k r d apart more l in
            let q = range_bounds (get_or rs middle r) (range_at_place rs middle r each (omega (arith, lt, b.within))) in
            let same : r.first ≡ (get_or rs middle r).first = ap (λ (x : NumberRange). x.first) is in
            omega (arith, p, q.1.0, same, under)
        | inr less ↦
            let here : middle ≡ k = omega (arith, m, less) in
            let same : r.first ≡ (get_or rs k d).first = ap (λ (x : NumberRange). x.first)
            (is ∙ get_or_default rs middle r d (omega (arith, lt, b.within)) ∙ ap (λ j. get_or rs j d) here) in
            omega (arith, same, under)
      ];
    }

  pub between_none : (low high : ℕ) → Between n rs low high → high ≤ low → has_number rs n ≡ false
  between_none low high b le = any_none (lies_in n) rs (λ k d lt. lies_not n (get_or rs k d) (λ h. elim (cases_lt k low) [
    | inl less ↦ let p = b.below k d less in omega (arith, p, h.1)
    | inr more ↦ let p = b.above k d (omega (arith, le, more)) lt in omega (arith, p, h.0)
  ]))

-- ---- an id in a summary

-- the ranges that are under a name
abbrev pub under_name : List ℕ → List NameRanges → Option NameRanges
under_name q s = find (λ k. is_eq (name_cmp q k.name)) s

-- whether a number lies in the ranges of what was found
abbrev pub found_has : Option NameRanges → ℕ → Bool
found_has None n = false
found_has (Some k) n = has_number k.ranges n

pub same_tied : (a b : List ℕ) → same_bytes b a ≡ is_eq (name_cmp a b)
same_tied a b = texts_ties b a ∙ sym (tied_back name_cmp name_total b a (is_eq (name_cmp b a)) refl)

apart_name : (a b : List ℕ) → is_lt (name_cmp a b) ≡ true → same_bytes b a ≡ false
apart_name a b h = same_tied a b ∙ ap is_eq (is_less _ h)

pub above_covers_none : (id : Id) (s : List NameRanges) → list_all (λ k. is_lt (name_cmp id.name k.name)) s ≡ true → covers s id ≡ false
above_covers_none id [] h = refl
above_covers_none id (k ∷ s) h =
    let p = and_parts (is_lt (name_cmp id.name k.name)) (list_all (λ x. is_lt (name_cmp id.name x.name)) s) h in
    rw (apart_name id.name k.name p.0) (above_covers_none id s p.1)

pub covers-found : (id : Id) (s : List NameRanges) → rises_by name_cmp (λ (k : NameRanges). k.name) s ≡ true
    → covers s id ≡ found_has (under_name id.name s) id.number
covers-found id [] h = refl
covers-found id (k ∷ s) h =
    let p = and_parts (list_all (λ (x : NameRanges). is_lt (name_cmp k.name x.name)) s)
    (rises_by name_cmp (λ (x : NameRanges). x.name) s) h in
    by (is_eq (name_cmp id.name k.name)) refl p (λ h. covers-found id s h)
  where
    by : (b : Bool) → is_eq (name_cmp id.name k.name) ≡ b
        → (list_all (λ (x : NameRanges). is_lt (name_cmp k.name x.name)) s ≡ true) ×
        (rises_by name_cmp (λ (x : NameRanges). x.name) s ≡ true)
        → (rises_by name_cmp (λ (x : NameRanges). x.name) s ≡ true → covers s id ≡ found_has (under_name id.name s) id.number)
        → covers (k ∷ s) id ≡ found_has (under_name id.name (k ∷ s)) id.number
    by true e p on =
        let same : k.name ≡ id.name = same_bytes-is k.name id.name (same_tied id.name k.name ∙ e) in
        let none : covers s id ≡ false =
        above_covers_none id s (subst (λ (q : List ℕ). list_all (λ (x : NameRanges). is_lt (name_cmp q x.name)) s ≡ true) same p.0) in
        rw (same_tied id.name k.name ∙ e, e, none) (or-false (has_number k.ranges id.number))
    by false e p on = rw (same_tied id.name k.name ∙ e, e) (on p.1)

pub covered_is : (id : Id) (name : List ℕ) (number : ℕ) (s names : List NameRanges) (one : Option NameRanges)
    → rises_by name_cmp (λ (k : NameRanges). k.name) names ≡ true → names ≡ s → ◌≡◌ {A = Id} (record { number = number; name = name }) id
    → one ≡ under_name name names → covers s id ≡ found_has one number
covered_is id name number s names one h e f g =
    (λ j. covers (sym e j) (sym f j)) ∙ covers-found (record { number = number; name = name }) names h
    ∙ ap (λ o. found_has o number) (sym g)

-- an id, by the bytes of its name
pub named : {a b : List ℕ} {n : ℕ} {id : Id} → a ≡ b → ◌≡◌ {A = Id} (record { number = n; name = b }) id
    → ◌≡◌ {A = Id} (record { number = n; name = a }) id
named {n = n} e is = (λ i. record { number = n; name = e i }) ∙ is
