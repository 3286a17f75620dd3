-- What is kept of a verse's number says whether the verse is there, and whether it is there twice.
use Rattle.std.proofs.Common.{◌≡◌, ℕ, suc, ◌+◌, ◌<◌, max, Bool, true, false, cond, ◌&&◌, ◌||◌, nat_le, nat_lt, List, [], ◌∷◌, ◌++◌, length, take, get_or, arith, refl, sym, ap, ◌∙◌}
use Rattle.std.specs.List.{list_any}
use Rattle.std.proofs.Math.Bool.{or-false}
use Rattle.std.proofs.lemmas.Bool.Decides.{nat_tests}
use Rattle.covered_verses.specs.declared.covered.Covered.{Covered}
use Rattle.missing_verses.specs.Numbers.{has, is_there, is_bridge, from_part, to_part, meets, is_twice}
use Rattle.missing_verses.specs.Loops.Tallies.{none_counted, reach_of, with_one, counted, counted_all, AreTallies, Counts}
use Rattle.std.proofs.Math.Seq.{take-suc}
use Rattle.missing_verses.specs.declared.tally.Tally.{Tally}

-- ---- one more at the end

pub counted_more : (n : ℕ) (t : Tally) (vs : List Covered) (v : Covered) → counted_all n t (vs ++ v ∷ []) ≡ counted n v (counted_all n t vs)
counted_more n t [] v = refl
counted_more n t (w ∷ vs) v = counted_more n (counted n w t) vs v

-- what does not have a number leaves its tally
pub not_counted : (n : ℕ) (v : Covered) (t : Tally) → has n v ≡ false → counted n v t ≡ t
not_counted n v t h = ap (λ b. cond b (with_one n v t) t) h

-- ---- whether it is there

or_assoc : (a b c : Bool) → ((a || b) || c) ≡ (a || (b || c))
or_assoc true b c = refl
or_assoc false b c = refl

there_from : (n : ℕ) (t : Tally) (vs : List Covered) → (counted_all n t vs).there ≡ (t.there || is_there n vs)
there_from n t [] = sym (or-false t.there)
there_from n t (v ∷ vs) = there_from n (counted n v t) vs ∙ by (has n v) t.there refl
  where
    by : (b : Bool) (a : Bool) → t.there ≡ a
        → ((cond b (with_one n v t) t).there || is_there n vs) ≡ (a || (b || is_there n vs))
    by true true e = refl
    by true false e = refl
    by false a e = ap (λ x. x || is_there n vs) e

-- a verse is there where its tally says so
pub tally_there : (n : ℕ) (vs : List Covered) → (counted_all n none_counted vs).there ≡ is_there n vs
tally_there n vs = there_from n none_counted vs

-- ---- whether it is there twice

-- whether one of some has a number, and begins with a part of it below a reach
abbrev within : ℕ → ℕ → List Covered → Bool
within n reach vs = list_any (λ w. has n w && nat_lt (from_part n w) reach) vs

within_none : (n : ℕ) (vs : List Covered) → within n 0 vs ≡ false
within_none n [] = refl
within_none n (v ∷ vs) = by (has n v) (within_none n vs)
  where
    by : (b : Bool) → within n 0 vs ≡ false → ((b && nat_lt (from_part n v) 0) || within n 0 vs) ≡ false
    by true e = let z : nat_lt (from_part n v) 0 ≡ false = grind (arith, nat_tests) in (λ i. z i || e i)
    by false e = e

lt_max : (x a b : ℕ) → nat_lt x (max a b) ≡ (nat_lt x a || nat_lt x b)
lt_max x a b = by (nat_lt x a) refl (nat_lt x b) refl
  where
    by : (p : Bool) → nat_lt x a ≡ p → (q : Bool) → nat_lt x b ≡ q → nat_lt x (max a b) ≡ (p || q)
    by true e q f = grind (arith, nat_tests, e)
    by false e true f = grind (arith, nat_tests, f)
    by false e false f = grind (arith, nat_tests, e, f)

swap : (a b c d : Bool) → ((a || b) || (c || d)) ≡ ((a || c) || (b || d))
swap true b c d = refl
swap false true true d = refl
swap false true false d = refl
swap false false c d = refl

within_max : (n a b : ℕ) (vs : List Covered) → within n (max a b) vs ≡ (within n a vs || within n b vs)
within_max n a b [] = refl
within_max n a b (v ∷ vs) = by (within_max n a b vs) (has n v)
  where
    by : within n (max a b) vs ≡ (within n a vs || within n b vs) → (h : Bool)
        → ((h && nat_lt (from_part n v) (max a b)) || within n (max a b) vs)
        ≡ (((h && nat_lt (from_part n v) a) || within n a vs) || ((h && nat_lt (from_part n v) b) || within n b vs))
    by rest true =
        (λ i. lt_max (from_part n v) a b i || rest i)
        ∙ swap (nat_lt (from_part n v) a) (nat_lt (from_part n v) b) (within n a vs) (within n b vs)
    by rest false = rest

-- what a bridge that has the number meets
reached : (n : ℕ) (v : Covered) (vs : List Covered) → has n v ≡ true → within n (reach_of n v) vs ≡ list_any (meets n v) vs
reached n v [] h = refl
reached n v (w ∷ vs) h = by (is_bridge v) refl (reached n v vs h)
  where
    le_lt : (a b : ℕ) → nat_lt a (b + 1) ≡ nat_le a b
    le_lt a b = grind (arith, nat_tests)

    by : (b : Bool) → is_bridge v ≡ b → within n (reach_of n v) vs ≡ list_any (meets n v) vs
        → within n (reach_of n v) (w ∷ vs) ≡ list_any (meets n v) (w ∷ vs)
    by true e rest =
        let r : reach_of n v ≡ to_part n v + 1 = ap (λ b. cond b (to_part n v + 1) 0) e in
        let lt : nat_lt (from_part n w) (reach_of n v) ≡ nat_le (from_part n w) (to_part n v) =
        ap (nat_lt (from_part n w)) r ∙ le_lt (from_part n w) (to_part n v) in
        let here : (has n w && nat_lt (from_part n w) (reach_of n v)) ≡ meets n v w =
        ap (λ y. has n w && y) lt ∙ sym (λ i. (e i && h i) && (has n w && nat_le (from_part n w) (to_part n v))) in
        (λ i. here i || rest i)
    by false e rest =
        let r : reach_of n v ≡ 0 = ap (λ b. cond b (to_part n v + 1) 0) e in
        let lt : nat_lt (from_part n w) (reach_of n v) ≡ false = ap (nat_lt (from_part n w)) r ∙ (grind (arith, nat_tests)) in
        let no : (has n w && false) ≡ false = and_no (has n w) in
        let here : (has n w && nat_lt (from_part n w) (reach_of n v)) ≡ meets n v w =
        ap (λ y. has n w && y) lt ∙ no ∙ sym (λ i. (e i && has n v) && (has n w && nat_le (from_part n w) (to_part n v))) in
        (λ i. here i || rest i)
      where
        and_no : (b : Bool) → (b && false) ≡ false
        and_no true = refl
        and_no false = refl

unmet : (n : ℕ) (v : Covered) (vs : List Covered) → has n v ≡ false → list_any (meets n v) vs ≡ false
unmet n v [] h = refl
unmet n v (w ∷ vs) h = (λ i. ((is_bridge v && h i) && (has n w && nat_le (from_part n w) (to_part n v))) || unmet n v vs h i)
    ∙ by (is_bridge v)
  where
    by : (b : Bool) → (((b && false) && (has n w && nat_le (from_part n w) (to_part n v))) || false) ≡ false
    by true = refl
    by false = refl

twice_from : (n : ℕ) (t : Tally) (vs : List Covered)
    → (counted_all n t vs).twice ≡ (t.twice || (within n t.reach vs || is_twice n vs))
twice_from n t [] = sym (or-false t.twice)
twice_from n t (v ∷ vs) = twice_from n (counted n v t) vs ∙ by (has n v) refl
  where
    shuffle : (a b c d e : Bool) → ((a || b) || ((c || d) || e)) ≡ (a || ((b || c) || (d || e)))
    shuffle true b c d e = refl
    shuffle false true c d e = refl
    shuffle false false true d e = refl
    shuffle false false false d e = refl

    by : (b : Bool) → has n v ≡ b
        → ((counted n v t).twice || (within n (counted n v t).reach vs || is_twice n vs))
        ≡ (t.twice || (((has n v && nat_lt (from_part n v) t.reach) || within n t.reach vs) || (list_any (meets n v) vs || is_twice n vs)))
    by true e =
        let c : counted n v t ≡ with_one n v t = ap (λ b. cond b (with_one n v t) t) e in
        ap (λ (u : Tally). u.twice || (within n u.reach vs || is_twice n vs)) c
        ∙ ap (λ x. (t.twice || nat_lt (from_part n v) t.reach) || (x || is_twice n vs))
        (within_max n t.reach (reach_of n v) vs ∙ ap (λ x. within n t.reach vs || x) (reached n v vs e))
        ∙ shuffle t.twice (nat_lt (from_part n v) t.reach) (within n t.reach vs) (list_any (meets n v) vs) (is_twice n vs)
        ∙ ap (λ b. t.twice || (((b && nat_lt (from_part n v) t.reach) || within n t.reach vs)
        || (list_any (meets n v) vs || is_twice n vs))) (sym e)
    by false e =
        ap (λ (u : Tally). u.twice || (within n u.reach vs || is_twice n vs)) (not_counted n v t e)
        ∙ (λ i. t.twice || (((sym e i && nat_lt (from_part n v) t.reach) || within n t.reach vs)
        || (sym (unmet n v vs e) i || is_twice n vs)))

-- a verse is there twice where its tally says so
pub tally_twice : (n : ℕ) (vs : List Covered) → (counted_all n none_counted vs).twice ≡ is_twice n vs
tally_twice n vs = twice_from n none_counted vs ∙ ap (λ b. b || is_twice n vs) (within_none n vs)

-- ---- which numbers one has

-- a number before the first, or after the last, is not had
pub had_not : (n : ℕ) (v : Covered) → (n < v.first → has n v ≡ false) × (v.last < n → has n v ≡ false)
had_not n v = (
  λ l. let e : nat_le v.first n ≡ false = grind (arith, nat_tests, l) in ap (λ b. b && nat_le n v.last) e,
  λ l. let e : nat_le n v.last ≡ false = grind (arith, nat_tests, l) in (λ i. nat_le v.first n && e i) ∙ no (nat_le v.first n),
)
  where
    no : (b : Bool) → (b && false) ≡ false
    no true = refl
    no false = refl

-- ---- the tallies of all numbers

-- the tallies of what came so far, and of one more
pub count_more : (vs : List Covered) (i : ℕ) (d : Covered) (before after : List Tally) → i < length vs → AreTallies (take i vs) before
    → Counts (get_or vs i d) before after → AreTallies (take (i + 1) vs) after
count_more vs i d before after l are counts = (
  counts.0 ∙ are.0,
  λ n low.
      let e : i + 1 ≡ suc i = omega arith in
      let many = are.0 in
      counts.1 n (omega (arith, many, low)) ∙ ap (counted n (get_or vs i d)) (are.1 n low)
      ∙ sym (counted_more n none_counted (take i vs) (get_or vs i d))
      ∙ ap (counted_all n none_counted) (sym (ap (λ k. take k vs) e ∙ take-suc vs i d l)),
)
