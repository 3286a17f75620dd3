-- Rising lists with one item put in its place or taken out, and the binary search for that place.
use Rattle.std.proofs.Common.{◌≡◌, ℕ, zero, suc, ◌<◌, ◌≤◌, ◌+◌, Bool, true, false, not, cond, List, [], ◌∷◌, Option, Some, None, length, get_or, set, arith, refl, sym, ap, ◌∙◌}
use Rattle.std.specs.declared.cmp.Ordering.{Ordering}
use Rattle.std.specs.declared.cmp.Ordering.TheVariants.{Less, Equal, Greater}
use Rattle.std.specs.Ordering.{is_eq, is_lt}
use Rattle.std.specs.List.{position_or_len, insert, remove, filter, AllByRecursion}
use Rattle.std.specs.List.Sorted.{IsPartitionedBy, IsPartitionPoint}
use Rattle.std.specs.Cmp.{IsTotalOrder, tied_itself}
use Rattle.std.specs.FinMap.Entries.{by_order}
use Rattle.std.proofs.lemmas.Bool.{and_from, cond-true, cond-false, true≢false, false≢true}
use Rattle.std.proofs.lemmas.List.Sums.{position_or_len_is}
use Rattle.std.proofs.lemmas.List.{get_or_default}
use Rattle.usfm_ref.specs.Rising.{rises_by, placed}
use Rattle.usfm_ref.proofs.Sorted.{is_less}
use Rattle.usfm_ref.proofs.Sorted as sorted

-- ---- a binary search by a test that holds of a first part and of nothing after it

-- the facts that the loop keeps
pub record IsNarrowed {X : Type 0} (p : X → Bool) (xs : List X) (low high : ℕ) : Type 0 where
  pub ordered : low ≤ high
  pub within : high ≤ length xs
  pub below : (k : ℕ) (d : X) → k < low → p (get_or xs k d) ≡ true
  pub above : (k : ℕ) (d : X) → high ≤ k → k < length xs → p (get_or xs k d) ≡ false

not_true : (b : Bool) → (b ≡ true → false ≡ true) → b ≡ false
not_true true h = sym (h refl)
not_true false h = refl

-- before the first look nothing is ruled out
pub narrowed_all : {X : Type 0} (p : X → Bool) (xs : List X) → IsNarrowed p xs 0 (length xs)
narrowed_all p xs =
    record { ordered = omega arith; within = omega arith; below = λ k d l. absurd (omega arith); above = λ k d l m. absurd (omega arith) }

-- an item that passes rules out what comes before it
pub narrowed_low : {X : Type 0} (p : X → Bool) (xs : List X) (low high middle : ℕ) (x : X) → IsPartitionedBy p xs
    → IsNarrowed p xs low high → middle < high → x ≡ get_or xs middle x → p x ≡ true → IsNarrowed p xs (middle + 1) high
narrowed_low p xs low high middle x parted h l hx hp =
    let w = h.within in
    let o = h.ordered in
    record {
      ordered = omega arith;
      within = h.within;
      below = λ k d m. parted k middle d (omega arith) (omega arith) (ap p (sym (hx ∙ get_or_default xs middle x d (omega arith))) ∙ hp);
      above = h.above;
    }

-- an item that fails rules out what comes after it
pub narrowed_high : {X : Type 0} (p : X → Bool) (xs : List X) (low high middle : ℕ) (x : X) → IsPartitionedBy p xs
    → IsNarrowed p xs low high → low ≤ middle → middle < high → x ≡ get_or xs middle x → p x ≡ false → IsNarrowed p xs low middle
narrowed_high p xs low high middle x parted h g l hx hp =
    let w = h.within in
    record {
      ordered = g;
      within = omega arith;
      below = h.below;
      above = λ k d m n. not_true (p (get_or xs k d))
          (λ e. sym (ap p (sym (hx ∙ get_or_default xs middle x d (omega arith))) ∙ hp) ∙ parted middle k d m n e);
    }

-- where nothing is left, there the test fails for the first time, in a list with an item
pub narrowed_end : {X : Type 0} (p : X → Bool) (xs : List X) (low high : ℕ) (d : X) → IsNarrowed p xs low high → high ≤ low
    → low ≡ position_or_len (λ x. not (p x)) xs
narrowed_end p xs low high d h l =
    let w = h.within in
    let o = h.ordered in
    sym (position_or_len_is (λ x. not (p x)) xs low d (omega arith) (λ k m. ap not (h.below k d m))
    (λ m. ap not (h.above low d (omega arith) m)))

-- in a list without items nothing is left to be looked at
pub narrowed_none : {X : Type 0} (p : X → Bool) (low high : ℕ) → IsNarrowed p [] low high → low ≡ 0
narrowed_none p low high h =
    let w : high ≤ 0 = h.within in
    let o = h.ordered in
    omega arith

-- the same in any list
pub narrowed_place : {X : Type 0} (p : X → Bool) (xs : List X) (low high : ℕ) → IsNarrowed p xs low high → high ≤ low
    → low ≡ position_or_len (λ x. not (p x)) xs
narrowed_place p [] low high h l = narrowed_none p low high h
narrowed_place p (x ∷ xs) low high h l = narrowed_end p (x ∷ xs) low high x h l

-- where a list is parted by a test, there the test fails for the first time
pub partition_place : {X : Type 0} (p : X → Bool) (xs : List X) (n : ℕ) → n ≤ length xs
    → IsPartitionPoint (λ x. p x ≡ true) (λ x. p x ≡ false) xs n → n ≡ position_or_len (λ x. not (p x)) xs
partition_place p [] n l h = omega (arith, l)
partition_place p (x ∷ xs) n l h =
    sym (position_or_len_is (λ x. not (p x)) (x ∷ xs) n x l (λ k m. ap not (h.0 k x (omega arith) m))
    (λ m. ap not (h.1 n x (omega arith) m)))

-- ---- lists that rise by a key

is_equal : (o : Ordering) → is_eq o ≡ true → o ≡ Equal
is_equal Less h = cc
is_equal Equal h = refl
is_equal Greater h = cc

-- putting an item in its own place changes nothing
pub set_same : {X : Type 0} (xs : List X) (n : ℕ) (y : X) → y ≡ get_or xs n y → xs ≡ set xs n y
set_same [] n y h = refl
set_same (x ∷ xs) zero y h = ap (λ z. z ∷ xs) (sym h)
set_same (x ∷ xs) (suc n) y h = ap (λ zs. x ∷ zs) (set_same xs n y h)

module _ {K X : Type 0} (R : K → K → Ordering) (o : IsTotalOrder R) (key : X → K) where
  abbrev Above : K → List X → Type 0
  Above = sorted.Above R o key

  abbrev found : K → List X → Option X
  found = sorted.found R o key

  abbrev place : K → List X → ℕ
  place = sorted.place R o key

  -- ---- an item put in the place of its key

  above_placed : (k : K) (y : X) (xs : List X) → is_lt (R k (key y)) ≡ true → Above k xs → Above k (placed R key y xs)
  above_placed k y [] p h = and_from _ _ p refl
  above_placed k y (x ∷ xs) p h =
      let q = sorted.first_above R o key k x xs h in
      elim (R (key y) (key x)) as (λ r. Above k (by_order r (y ∷ x ∷ xs) (y ∷ xs) (x ∷ placed R key y xs))) [
        | Less ↦ and_from _ _ p h
        | Equal ↦ and_from _ _ p q.1
        | Greater ↦ and_from _ _ q.0 (above_placed k y xs p q.1)
      ]

  tied_above : (a b : K) (xs : List X) → R a b ≡ Equal → Above b xs → Above a xs
  tied_above a b [] e h = refl
  tied_above a b (x ∷ xs) e h =
      let q = sorted.first_above R o key b x xs h in
      and_from _ _ (ap is_lt (o.congr a b (key x) e) ∙ q.0) (tied_above a b xs e q.1)

  -- a list rises still with an item put in its place
  pub rises_placed : (y : X) (xs : List X) → rises_by R key xs ≡ true → rises_by R key (placed R key y xs) ≡ true
  rises_placed y [] h = refl
  rises_placed y (x ∷ xs) h =
      let p = sorted.parts R o key x xs h in
      elim (R (key y) (key x)) as
      (λ r. R (key y) (key x) ≡ r → rises_by R key (by_order r (y ∷ x ∷ xs) (y ∷ xs) (x ∷ placed R key y xs)) ≡ true) [
        | Less ↦ λ e. and_from _ _ (and_from _ _ (ap is_lt e) (sorted.above_trans R o key (key y) (key x) xs e p.0)) h
        | Equal ↦ λ e. and_from _ _ (tied_above (key y) (key x) xs e p.0) p.1
        | Greater ↦ λ e. and_from _ _ (above_placed (key x) y xs (ap is_lt (sorted.back R o key (key y) (key x) Greater e)) p.0)
            (rises_placed y xs p.1)
      ] refl

  -- what holds of the item and of all others holds of all
  pub all_placed : (P : X → Type 0) (y : X) (xs : List X) → P y → AllByRecursion P xs → AllByRecursion P (placed R key y xs)
  all_placed P y [] p h = (p, tt)
  all_placed P y (x ∷ xs) p h = elim (R (key y) (key x)) as
      (λ r. AllByRecursion P (by_order r (y ∷ x ∷ xs) (y ∷ xs) (x ∷ placed R key y xs))) [
        | Less ↦ (p, h)
        | Equal ↦ (p, h.1)
        | Greater ↦ (h.0, all_placed P y xs p h.1)
      ]

  -- two keys that do not tie are not both tied to a third
  apart : (q a b : K) (r : Ordering) → R a b ≡ r → is_eq r ≡ false → is_eq (R q a) ≡ true → is_eq (R q b) ≡ false
  apart q a b r e f t =
      let qa : R q a ≡ Equal = is_equal _ t in
      ap is_eq (o.congr q a b qa ∙ e) ∙ f

  -- what is found after an item was put in its place
  pub found_placed : (q : K) (y : X) (xs : List X) → found q (placed R key y xs) ≡ cond (is_eq (R q (key y))) (Some y) (found q xs)
  found_placed q y [] = refl
  found_placed q y (x ∷ xs) =
      elim (R (key y) (key x)) as
      (λ r. R (key y) (key x) ≡ r
      → found q (by_order r (y ∷ x ∷ xs) (y ∷ xs) (x ∷ placed R key y xs)) ≡ cond (is_eq (R q (key y))) (Some y) (found q (x ∷ xs))) [
        | Less ↦ λ e. refl
        | Equal ↦ λ e. tied (is_eq (R q (key y))) (is_eq (R q (key x)))
            (λ t. sym (ap is_eq (o.congr q (key y) (key x) (is_equal _ t) ∙ e)))
            (λ t. ap is_eq (o.congr q (key x) (key y) (is_equal _ t) ∙ sorted.back R o key (key y) (key x) Equal e))
        | Greater ↦ λ e. ap (cond (is_eq (R q (key x))) (Some x)) (found_placed q y xs)
            ∙ later (is_eq (R q (key x))) (is_eq (R q (key y)))
            (λ t. apart q (key x) (key y) Less (sorted.back R o key (key y) (key x) Greater e) refl t)
      ] refl
    where
      tied : (b c : Bool) → (b ≡ true → true ≡ c) → (c ≡ true → b ≡ true)
          → cond b (Some y) (found q xs) ≡ cond b (Some y) (cond c (Some x) (found q xs))
      tied true c f g = refl
      tied false true f g = absurd (false≢true (g refl))
      tied false false f g = refl

      later : (c b : Bool) → (c ≡ true → b ≡ false)
          → cond c (Some x) (cond b (Some y) (found q xs)) ≡ cond b (Some y) (cond c (Some x) (found q xs))
      later true b f = rw (f refl) refl
      later false b f = refl

  -- where nothing has its key, it is put in between
  pub placed_insert : (y : X) (xs : List X) (n : ℕ) → n ≡ place (key y) xs → found (key y) xs ≡ None → insert xs n y ≡ placed R key y xs
  placed_insert y [] n e g = rw e refl
  placed_insert y (x ∷ xs) n e g =
      elim (R (key y) (key x)) as
      (λ r. R (key y) (key x) ≡ r → insert (x ∷ xs) n y ≡ by_order r (y ∷ x ∷ xs) (y ∷ xs) (x ∷ placed R key y xs)) [
        | Less ↦ λ c. ap (λ k. insert (x ∷ xs) k y)
            (e ∙ sorted.place_here R o key (key y) x xs (ap is_lt (sorted.back R o key (key y) (key x) Less c)))
        | Equal ↦ λ c. cc (sym (cond-true _ (Some x) (found (key y) xs) (ap is_eq c)) ∙ g)
        | Greater ↦ λ c.
            ap (λ k. insert (x ∷ xs) k y)
            (e ∙ sorted.place_later R o key (key y) x xs (ap is_lt (sorted.back R o key (key y) (key x) Greater c)))
            ∙ ap (λ zs. x ∷ zs) (placed_insert y xs (place (key y) xs) refl
            (sym (cond-false _ (Some x) (found (key y) xs) (ap is_eq c)) ∙ g))
      ] refl

  -- where an item has its key, it takes the place of that one
  pub placed_set : (y : X) (xs : List X) (n : ℕ) (x : X) → rises_by R key xs ≡ true → n ≡ place (key y) xs → n < length xs
      → x ≡ get_or xs n x → is_eq (R (key y) (key x)) ≡ true → set xs n y ≡ placed R key y xs
  placed_set y [] n x h e l hx t = absurd (omega arith)
  placed_set y (z ∷ zs) n x h e l hx t =
      elim (R (key y) (key z)) as
      (λ r. R (key y) (key z) ≡ r → set (z ∷ zs) n y ≡ by_order r (y ∷ z ∷ zs) (y ∷ zs) (z ∷ placed R key y zs)) [
        | Less ↦ λ c.
            let m : n ≡ 0 = e ∙ sorted.place_here R o key (key y) z zs (ap is_lt (sorted.back R o key (key y) (key z) Less c)) in
            let same : x ≡ z = hx ∙ ap (λ k. get_or (z ∷ zs) k x) m in
            absurd (true≢false (sym t ∙ ap (λ (w : X). is_eq (R (key y) (key w))) same ∙ ap is_eq c))
        | Equal ↦ λ c. ap (λ k. set (z ∷ zs) k y)
            (e ∙ sorted.place_here R o key (key y) z zs (ap is_lt (sorted.back R o key (key y) (key z) Equal c)))
        | Greater ↦ λ c.
            let m : n ≡ suc (place (key y) zs) = e
            ∙ sorted.place_later R o key (key y) z zs (ap is_lt (sorted.back R o key (key y) (key z) Greater c)) in
            ap (λ k. set (z ∷ zs) k y) m
            ∙ ap (λ ws. z ∷ ws) (placed_set y zs (place (key y) zs) x (sorted.parts R o key z zs h).1 refl (omega (arith, m))
            (hx ∙ ap (λ k. get_or (z ∷ zs) k x) m) t)
      ] refl

  -- ---- an item taken out

  abbrev pub others : K → List X → List X
  others q xs = filter (λ x. not (is_eq (R q (key x)))) xs

  above_others : (q : K) (xs : List X) → Above q xs → others q xs ≡ xs
  above_others q [] h = refl
  above_others q (x ∷ xs) h =
      let p = sorted.first_above R o key q x xs h in
      cond-true _ _ _ (ap (λ c. not (is_eq c)) (is_less _ p.0)) ∙ ap (λ zs. x ∷ zs) (above_others q xs p.1)

  -- where nothing has a key, all have others
  pub others_none : (q : K) (xs : List X) → found q xs ≡ None → xs ≡ others q xs
  others_none q [] h = refl
  others_none q (x ∷ xs) h = by (others_none q xs) (is_eq (R q (key x))) refl h
    where
      by : (found q xs ≡ None → xs ≡ others q xs) → (b : Bool) → is_eq (R q (key x)) ≡ b → cond b (Some x) (found q xs) ≡ None
          → x ∷ xs ≡ others q (x ∷ xs)
      by rest true e h = cc h
      by rest false e h = sym (cond-true _ _ _ (ap not e) ∙ ap (λ zs. x ∷ zs) (sym (rest h)))

  -- taking out the item of a key leaves those of other keys
  pub others_at : (q : K) (xs : List X) (n : ℕ) (x : X) → rises_by R key xs ≡ true → n ≡ place q xs → n < length xs → x ≡ get_or xs n x
      → is_eq (R q (key x)) ≡ true → remove xs n ≡ others q xs
  others_at q [] n x h e l hx t = absurd (omega arith)
  others_at q (z ∷ zs) n x h e l hx t =
      by (λ m at. others_at q zs (place q zs) x (sorted.parts R o key z zs h).1 refl m at t) (R q (key z)) refl
    where
      by : (place q zs < length zs → x ≡ get_or zs (place q zs) x → remove zs (place q zs) ≡ others q zs) → (r : Ordering)
          → R q (key z) ≡ r → remove (z ∷ zs) n ≡ others q (z ∷ zs)
      by rest Less c =
          let m : n ≡ 0 = e ∙ sorted.place_here R o key q z zs (ap is_lt (sorted.back R o key q (key z) Less c)) in
          let same : x ≡ z = hx ∙ ap (λ k. get_or (z ∷ zs) k x) m in
          absurd (true≢false (sym t ∙ ap (λ (w : X). is_eq (R q (key w))) same ∙ ap is_eq c))
      by rest Equal c =
          let m : n ≡ 0 = e ∙ sorted.place_here R o key q z zs (ap is_lt (sorted.back R o key q (key z) Equal c)) in
          ap (remove (z ∷ zs)) m ∙ sym
          (cond-false _ _ _ (ap (λ c. not (is_eq c)) c) ∙ above_others q zs (tied_above q (key z) zs c (sorted.parts R o key z zs h).0))
      by rest Greater c =
          let m : n ≡ suc (place q zs) = e ∙ sorted.place_later R o key q z zs (ap is_lt (sorted.back R o key q (key z) Greater c)) in
          ap (remove (z ∷ zs)) m ∙ ap (λ ws. z ∷ ws) (rest (omega (arith, m)) (hx ∙ ap (λ k. get_or (z ∷ zs) k x) m))
          ∙ sym (cond-true _ _ _ (ap (λ c. not (is_eq c)) c))

  -- an item that is equal to the one at its key's place changes nothing
  pub placed_same : (y : X) (xs : List X) (n : ℕ) → rises_by R key xs ≡ true → n ≡ place (key y) xs → n < length xs → y ≡ get_or xs n y
      → xs ≡ placed R key y xs
  placed_same y xs n h e l hy = set_same xs n y hy ∙ placed_set y xs n y h e l hy (ap is_eq (tied_itself o (key y)))
