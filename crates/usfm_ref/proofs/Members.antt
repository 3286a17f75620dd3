-- Rising lists with the same items are equal.
use Rattle.std.proofs.Common.{◌≡◌, Bool, true, false, ◌&&◌, ◌||◌, cond, List, [], ◌∷◌, Some, None, T, map, refl, sym, ap, subst, ◌∙◌}
use Rattle.std.specs.declared.cmp.Ordering.{Ordering}
use Rattle.std.specs.declared.cmp.Ordering.TheVariants.{Less, Equal, Greater}
use Rattle.std.specs.Ordering.{is_eq, is_lt}
use Rattle.std.specs.List.{list_all, list_any}
use Rattle.std.specs.Cmp.{IsTotalOrder, Equal-is}
use Rattle.std.specs.FinMap.Entries.{by_order, is_sorted, find, below_all, same_entries}
use Rattle.usfm_ref.specs.Rising.{rises_by, with_item, rising}
use Rattle.usfm_ref.proofs.Sorted.{found}

module _ {K : Type 0} (cmp : K → K → Ordering) (o : IsTotalOrder cmp) (exact : (a b : K) → cmp a b ≡ Equal → a ≡ b) where
  abbrev paired : List K → List (K × K)
  paired xs = map (λ (x : K). (x, x)) xs

  unpaired : (xs : List K) → map (λ (e : K × K). e.1) (paired xs) ≡ xs
  unpaired [] = refl
  unpaired (x ∷ xs) = ap (λ ys. x ∷ ys) (unpaired xs)

  below : (k : K) (xs : List K) → below_all cmp k (paired xs) ≡ list_all (λ (x : K). is_lt (cmp k x)) xs
  below k [] = refl
  below k (x ∷ xs) = ap (λ b. is_lt (cmp k x) && b) (below k xs)

  sorted_rises : (xs : List K) → is_sorted cmp (paired xs) ≡ rises_by cmp (λ (x : K). x) xs
  sorted_rises [] = refl
  sorted_rises (x ∷ xs) = λ i. below x xs i && sorted_rises xs i

  find_found : (q : K) (xs : List K) → find cmp q (paired xs) ≡ found cmp o (λ (x : K). x) q xs
  find_found q [] = refl
  find_found q (x ∷ xs) = ap (cond (is_eq (cmp q x)) (Some x)) (find_found q xs)

  -- rising lists in which the same is found are one list
  pub same_items : (xs ys : List K) → rises_by cmp (λ (x : K). x) xs ≡ true → rises_by cmp (λ (x : K). x) ys ≡ true
      → ((q : K) → found cmp o (λ (x : K). x) q xs ≡ found cmp o (λ (x : K). x) q ys) → xs ≡ ys
  same_items xs ys hx hy is =
      sym (unpaired xs)
      ∙ ap (map (λ (e : K × K). e.1))
      (same_entries cmp o exact (paired xs) (paired ys) (subst T (sym (sorted_rises xs ∙ hx)) tt)
      (subst T (sym (sorted_rises ys ∙ hy)) tt) (λ q. find_found q xs ∙ is q ∙ sym (find_found q ys)))
      ∙ unpaired ys

  found_tested : (q : K) (xs : List K) → found cmp o (λ (x : K). x) q xs ≡ cond (list_any (λ x. is_eq (cmp q x)) xs) (Some q) None
  found_tested q [] = refl
  found_tested q (x ∷ xs) = by (found_tested q xs) (is_eq (cmp q x)) refl
    where
      by : found cmp o (λ (x : K). x) q xs ≡ cond (list_any (λ x. is_eq (cmp q x)) xs) (Some q) None → (b : Bool) → is_eq (cmp q x) ≡ b
          → cond b (Some x) (found cmp o (λ (x : K). x) q xs) ≡ cond (b || list_any (λ x. is_eq (cmp q x)) xs) (Some q) None
      by rest true e = ap Some (sym (exact q x ((Equal-is _).0 e)))
      by rest false e = rest

  -- rising lists with the same items are equal
  pub same_tested : (xs ys : List K) → rises_by cmp (λ (x : K). x) xs ≡ true → rises_by cmp (λ (x : K). x) ys ≡ true
      → ((q : K) → list_any (λ x. is_eq (cmp q x)) xs ≡ list_any (λ x. is_eq (cmp q x)) ys) → xs ≡ ys
  same_tested xs ys hx hy is =
      same_items xs ys hx hy (λ q. found_tested q xs ∙ ap (λ b. cond b (Some q) None) (is q) ∙ sym (found_tested q ys))

  tested_with : (q k : K) (xs : List K)
      → list_any (λ x. is_eq (cmp q x)) (with_item cmp k xs) ≡ (is_eq (cmp q k) || list_any (λ x. is_eq (cmp q x)) xs)
  tested_with q k [] = refl
  tested_with q k (x ∷ xs) = by (tested_with q k xs) (cmp k x) refl
    where
      twice : (a b : Bool) → (a || b) ≡ (a || (a || b))
      twice true b = refl
      twice false b = refl

      swap : (a b c : Bool) → (a || (b || c)) ≡ (b || (a || c))
      swap true true c = refl
      swap true false c = refl
      swap false true c = refl
      swap false false c = refl

      by : list_any (λ x. is_eq (cmp q x)) (with_item cmp k xs) ≡ (is_eq (cmp q k) || list_any (λ x. is_eq (cmp q x)) xs) → (r : Ordering)
          → cmp k x ≡ r → list_any (λ x. is_eq (cmp q x)) (by_order r (k ∷ x ∷ xs) (x ∷ xs) (x ∷ with_item cmp k xs))
          ≡ (is_eq (cmp q k) || (is_eq (cmp q x) || list_any (λ x. is_eq (cmp q x)) xs))
      by rest Less e = refl
      by rest Equal e = twice (is_eq (cmp q x)) (list_any (λ x. is_eq (cmp q x)) xs)
          ∙ ap (λ (i : K). is_eq (cmp q i) || (is_eq (cmp q x) || list_any (λ x. is_eq (cmp q x)) xs)) (sym (exact k x e))
      by rest Greater e =
          ap (λ b. is_eq (cmp q x) || b) rest ∙ swap (is_eq (cmp q x)) (is_eq (cmp q k)) (list_any (λ x. is_eq (cmp q x)) xs)

  -- a list's items, rising, are its items
  pub tested_rising : (q : K) (xs : List K) → list_any (λ x. is_eq (cmp q x)) (rising cmp xs) ≡ list_any (λ x. is_eq (cmp q x)) xs
  tested_rising q [] = refl
  tested_rising q (x ∷ xs) = tested_with q x (rising cmp xs) ∙ ap (λ b. is_eq (cmp q x) || b) (tested_rising q xs)
