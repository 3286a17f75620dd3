-- Lists that rise by a key: how they are searched, and what is left of them by a filter.
use Rattle.std.proofs.Common.{◌≡◌, ℕ, zero, suc, ◌<◌, ◌≤◌, Bool, true, false, not, cond, List, [], ◌∷◌, Option, Some, None, length, get_or, arith, refl, sym, ap, ◌∙◌}
use Rattle.std.specs.declared.cmp.Ordering.{Ordering}
use Rattle.std.specs.declared.cmp.Ordering.TheVariants.{Less, Equal, Greater}
use Rattle.std.specs.Ordering.{is_eq, is_lt, ordering_reverse}
use Rattle.std.specs.List.{list_all, position_or_len, find, filter, AllByRecursion}
use Rattle.std.specs.List.Sorted.{IsPartitionedBy}
use Rattle.std.specs.Cmp.{IsTotalOrder, tied_itself}
use Rattle.std.proofs.lemmas.Cmp.{eq_by_cmp_equiv}
use Rattle.std.proofs.lemmas.Bool.{and_parts, and_from, cond-true, cond-false, true≢false, false≢true}
use Rattle.std.specs.FinMap.Entries.{by_order}
use Rattle.usfm_ref.specs.Rising.{rises_by, with_item, rising}

-- the test of less, read
pub is_less : (o : Ordering) → is_lt o ≡ true → o ≡ Less
is_less Less h = refl
is_less Equal h = cc
is_less Greater h = cc

-- a tie, or none, is the same either way
pub tied_back : {K : Type 0} (R : K → K → Ordering) (o : IsTotalOrder R) (a b : K) (r : Bool) → is_eq (R a b) ≡ r → is_eq (R b a) ≡ r
tied_back R o a b r e = (eq_by_cmp_equiv o).symm b a ∙ e

module _ {K X : Type 0} (R : K → K → Ordering) (o : IsTotalOrder R) (key : X → K) where
  -- all items have keys above this one
  abbrev pub Above : K → List X → Type 0
  Above k xs = list_all (λ y. is_lt (R k (key y))) xs ≡ true

  -- a list that rises, read: all others are above the first, and these rise
  pub parts : (x : X) (xs : List X) → rises_by R key (x ∷ xs) ≡ true → Above (key x) xs × (rises_by R key xs ≡ true)
  parts x xs h = and_parts (list_all (λ y. is_lt (R (key x) (key y))) xs) (rises_by R key xs) h

  -- items above a key, read: the first, and the others
  pub first_above : (k : K) (x : X) (xs : List X) → Above k (x ∷ xs) → (is_lt (R k (key x)) ≡ true) × Above k xs
  first_above k x xs h = and_parts (is_lt (R k (key x))) (list_all (λ y. is_lt (R k (key y))) xs) h

  -- what is above a key is above all lower ones
  pub above_trans : (a b : K) (xs : List X) → R a b ≡ Less → Above b xs → Above a xs
  above_trans a b [] p h = refl
  above_trans a b (x ∷ xs) p h =
      let q = first_above b x xs h in
      and_from _ _ (ap is_lt (o.trans a b (key x) p (is_less _ q.0))) (above_trans a b xs p q.1)

  above_at : (k : K) (xs : List X) (j : ℕ) (d : X) → Above k xs → j < length xs → R k (key (get_or xs j d)) ≡ Less
  above_at k [] j d h l = absurd (omega arith)
  above_at k (x ∷ xs) zero d h l = is_less _ (first_above k x xs h).0
  above_at k (x ∷ xs) (suc j) d h l = above_at k xs j d (first_above k x xs h).1 (omega arith)

  -- in a list that rises, those below a key come first
  pub parted : (q : K) (xs : List X) → rises_by R key xs ≡ true → IsPartitionedBy (λ x. is_lt (R (key x) q)) xs
  parted q [] h i j d l m e = absurd (omega arith)
  parted q (x ∷ xs) h zero zero d l m e = e
  parted q (x ∷ xs) h zero (suc j) d l m e =
      ap is_lt (o.trans (key x) (key (get_or xs j d)) q (above_at (key x) xs j d (parts x xs h).0 (omega arith)) (is_less _ e))
  parted q (x ∷ xs) h (suc i) zero d l m e = absurd (omega arith)
  parted q (x ∷ xs) h (suc i) (suc j) d l m e = parted q xs (parts x xs h).1 i j d (omega arith) (omega arith) e

  -- the item of a key
  abbrev pub found : K → List X → Option X
  found q xs = find (λ x. is_eq (R q (key x))) xs

  pub above_none : (q : K) (xs : List X) → Above q xs → found q xs ≡ None
  above_none q [] h = refl
  above_none q (x ∷ xs) h =
      let p = first_above q x xs h in
      cond-false _ _ _ (ap is_eq (is_less _ p.0)) ∙ above_none q xs p.1

  -- an order, read from the other side
  pub back : (a b : K) (r : Ordering) → R a b ≡ r → R b a ≡ ordering_reverse r
  back a b r e = o.antisymm b a ∙ ap ordering_reverse e

  below_found : (x : X) (xs ys : List X) → Above (key x) ys → AllByRecursion (λ y. found (key y) xs ≡ Some y) ys
      → AllByRecursion (λ y. found (key y) (x ∷ xs) ≡ Some y) ys
  below_found x xs [] a h = tt
  below_found x xs (y ∷ ys) a h =
      let p = first_above (key x) y ys a in
      (cond-false _ _ _ (ap is_eq (back (key x) (key y) Less (is_less _ p.0))) ∙ h.0, below_found x xs ys p.1 h.1)

  -- each item is found under its key
  pub each_found : (xs : List X) → rises_by R key xs ≡ true → AllByRecursion (λ x. found (key x) xs ≡ Some x) xs
  each_found [] h = tt
  each_found (x ∷ xs) h =
      let p = parts x xs h in
      (cond-true _ _ _ (ap is_eq (tied_itself o (key x))), below_found x xs xs p.0 (each_found xs p.1))

  -- what is at the place of a key
  abbrev pub place : K → List X → ℕ
  place q xs = position_or_len (λ x. not (is_lt (R (key x) q))) xs

  pub place_here : (q : K) (x : X) (xs : List X) → is_lt (R (key x) q) ≡ false → place q (x ∷ xs) ≡ 0
  place_here q x xs e = rw e refl

  pub place_later : (q : K) (x : X) (xs : List X) → is_lt (R (key x) q) ≡ true → place q (x ∷ xs) ≡ suc (place q xs)
  place_later q x xs e = rw e (omega arith)

  -- an item of the key at the key's place is what is found
  pub found_here : (q : K) (xs : List X) (n : ℕ) (x : X) → rises_by R key xs ≡ true → n ≡ place q xs → n < length xs → x ≡ get_or xs n x
      → is_eq (R q (key x)) ≡ true → found q xs ≡ Some x
  found_here q [] n x h e l hx t = absurd (omega arith)
  found_here q (y ∷ ys) n x h e l hx t = by (λ m at. found_here q ys (place q ys) x (parts y ys h).1 refl m at t) (R q (key y)) refl
    where
      by : (place q ys < length ys → x ≡ get_or ys (place q ys) x → found q ys ≡ Some x) → (r : Ordering) → R q (key y) ≡ r
          → found q (y ∷ ys) ≡ Some x
      by rest Less e' =
          let z : n ≡ 0 = e ∙ place_here q y ys (ap is_lt (back q (key y) Less e')) in
          let same : x ≡ y = hx ∙ ap (λ k. get_or (y ∷ ys) k x) z in
          absurd (true≢false (sym t ∙ ap (λ (w : X). is_eq (R q (key w))) same ∙ ap is_eq e'))
      by rest Equal e' =
          let z : n ≡ 0 = e ∙ place_here q y ys (ap is_lt (back q (key y) Equal e')) in
          let same : x ≡ y = hx ∙ ap (λ k. get_or (y ∷ ys) k x) z in
          cond-true _ _ _ (ap is_eq e') ∙ ap Some (sym same)
      by rest Greater e' =
          let z : n ≡ suc (place q ys) = e ∙ place_later q y ys (ap is_lt (back q (key y) Greater e')) in
          let at : x ≡ get_or ys (place q ys) x = hx ∙ ap (λ k. get_or (y ∷ ys) k x) z in
          let m : place q ys < length ys = omega (arith, z) in
          cond-false _ _ _ (ap is_eq e') ∙ rest m at

  -- nothing is found where the item at the key's place has another key
  pub found_not : (q : K) (xs : List X) (n : ℕ) (x : X) → rises_by R key xs ≡ true → n ≡ place q xs → x ≡ get_or xs n x
      → is_eq (R q (key x)) ≡ false → found q xs ≡ None
  found_not q [] n x h e hx t = refl
  found_not q (y ∷ ys) n x h e hx t = by (λ at. found_not q ys (place q ys) x (parts y ys h).1 refl at t) (R q (key y)) refl
    where
      by : (x ≡ get_or ys (place q ys) x → found q ys ≡ None) → (r : Ordering) → R q (key y) ≡ r → found q (y ∷ ys) ≡ None
      by rest Less e' = cond-false _ _ _ (ap is_eq e') ∙ above_none q ys (above_trans q (key y) ys e' (parts y ys h).0)
      by rest Equal e' =
          let z : n ≡ 0 = e ∙ place_here q y ys (ap is_lt (back q (key y) Equal e')) in
          let same : x ≡ y = hx ∙ ap (λ k. get_or (y ∷ ys) k x) z in
          absurd (false≢true (sym t ∙ ap (λ (w : X). is_eq (R q (key w))) same ∙ ap is_eq e'))
      by rest Greater e' =
          let z : n ≡ suc (place q ys) = e ∙ place_later q y ys (ap is_lt (back q (key y) Greater e')) in
          let at : x ≡ get_or ys (place q ys) x = hx ∙ ap (λ k. get_or (y ∷ ys) k x) z in
          cond-false _ _ _ (ap is_eq e') ∙ rest at

  -- nothing is found where the key's place is the end
  pub found_end : (q : K) (xs : List X) (n : ℕ) → rises_by R key xs ≡ true → n ≡ place q xs → length xs ≤ n → found q xs ≡ None
  found_end q [] n h e l = refl
  found_end q (y ∷ ys) n h e l = by (λ m. found_end q ys (place q ys) (parts y ys h).1 refl m) (R q (key y)) refl
    where
      by : (length ys ≤ place q ys → found q ys ≡ None) → (r : Ordering) → R q (key y) ≡ r → found q (y ∷ ys) ≡ None
      by rest Less e' = let z : n ≡ 0 = e ∙ place_here q y ys (ap is_lt (back q (key y) Less e')) in absurd (omega (arith, z))
      by rest Equal e' = let z : n ≡ 0 = e ∙ place_here q y ys (ap is_lt (back q (key y) Equal e')) in absurd (omega (arith, z))
      by rest Greater e' =
          let z : n ≡ suc (place q ys) = e ∙ place_later q y ys (ap is_lt (back q (key y) Greater e')) in
          cond-false _ _ _ (ap is_eq e') ∙ rest (omega (arith, z))

  above_filter : (p : X → Bool) (k : K) (xs : List X) → Above k xs → Above k (filter p xs)
  above_filter p k [] h = refl
  above_filter p k (x ∷ xs) h =
      let q = first_above k x xs h in
      let rest = above_filter p k xs q.1 in
      elim (p x) as (λ b. Above k (cond b (x ∷ filter p xs) (filter p xs))) [ true ↦ and_from _ _ q.0 rest | false ↦ rest ]

  -- some items of a list that rises rise
  pub rises_filter : (p : X → Bool) (xs : List X) → rises_by R key xs ≡ true → rises_by R key (filter p xs) ≡ true
  rises_filter p [] h = refl
  rises_filter p (x ∷ xs) h =
      let q = parts x xs h in
      let rest = rises_filter p xs q.1 in
      elim (p x) as (λ b. rises_by R key (cond b (x ∷ filter p xs) (filter p xs))
      ≡ true) [ true ↦ and_from _ _ (above_filter p (key x) xs q.0) rest | false ↦ rest ]

-- ---- the items of a list, rising, each once

module _ {K : Type 0} (cmp : K → K → Ordering) (o : IsTotalOrder cmp) where
  above_with_item : (a k : K) (xs : List K) → is_lt (cmp a k) ≡ true → Above cmp o (λ (x : K). x) a xs
      → Above cmp o (λ (x : K). x) a (with_item cmp k xs)
  above_with_item a k [] l h = and_from _ _ l refl
  above_with_item a k (x ∷ xs) l h =
      let p = first_above cmp o (λ (x : K). x) a x xs h in
      elim (cmp k x) as (λ r. Above cmp o (λ (x : K). x) a (by_order r (k ∷ x ∷ xs) (x ∷ xs) (x ∷ with_item cmp k xs))) [
        | Less ↦ and_from _ _ l h
        | Equal ↦ h
        | Greater ↦ and_from _ _ p.0 (above_with_item a k xs l p.1)
      ]

  pub rises-with_item : (k : K) (xs : List K) → rises_by cmp (λ x. x) xs ≡ true → rises_by cmp (λ x. x) (with_item cmp k xs) ≡ true
  rises-with_item k [] h = refl
  rises-with_item k (x ∷ xs) h =
      let p = parts cmp o (λ (x : K). x) x xs h in
      elim (cmp k x) as (λ r. cmp k x ≡ r → rises_by cmp (λ x. x) (by_order r (k ∷ x ∷ xs) (x ∷ xs) (x ∷ with_item cmp k xs)) ≡ true) [
        | Less ↦ λ e. and_from _ _ (and_from _ _ (ap is_lt e) (above_trans cmp o (λ (x : K). x) k x xs e p.0)) h
        | Equal ↦ λ e. h
        | Greater ↦ λ e. and_from _ _ (above_with_item x k xs (ap is_lt (o.antisymm x k ∙ ap ordering_reverse e)) p.0)
            (rises-with_item k xs p.1)
      ] refl

  -- items that are put in order rise
  pub rises-rising : (xs : List K) → rises_by cmp (λ x. x) (rising cmp xs) ≡ true
  rises-rising [] = refl
  rises-rising (x ∷ xs) = rises-with_item x (rising cmp xs) (rises-rising xs)
