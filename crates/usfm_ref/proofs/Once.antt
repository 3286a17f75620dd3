-- Items sorted and listed once, seen by what contracts see of them, are the rising ones.
use Rattle.std.proofs.Common.{◌≡◌, Bool, true, false, cond, ◌||◌, List, [], ◌∷◌, map, refl, sym, ap, ◌∙◌}
use Rattle.std.specs.declared.cmp.Ordering.{Ordering}
use Rattle.std.specs.declared.cmp.Ordering.TheVariants.{Less, Equal}
use Rattle.std.specs.Cmp.{IsTotalOrder, Equal-is}
use Rattle.std.specs.List.{list_any, list_all, dedup, dedup_from, AllByRecursion}
use Rattle.std.specs.List.Retain.{IsFiltered, DiffersFromLast}
use Rattle.std.specs.List.Sorted.{IsSorted, IsStrictlySortedBy, IsPermutation}
use Rattle.std.specs.Ordering.{is_eq, is_lt}
use Rattle.std.proofs.lemmas.Bool.{and_from}
use Rattle.std.proofs.lemmas.Cmp.{on_total}
use Rattle.std.proofs.lemmas.List.Filters.{dedup_is}
use Rattle.std.proofs.lemmas.List.Kept.{IsStrictlySortedBy-dedup}
use Rattle.std.proofs.lemmas.List.Sorted.{list_any-IsPermutation}
use Rattle.usfm_ref.specs.Rising.{rises_by, rising}
use Rattle.usfm_ref.proofs.Members.{same_tested, tested_rising}
use Rattle.usfm_ref.proofs.Sorted.{rises-rising}

module _ {X K : Type 0} (view : X → K) (cmp : K → K → Ordering) (o : IsTotalOrder cmp) (exact : (a b : K) → cmp a b ≡ Equal → a ≡ b) where
  abbrev seen_cmp : X → X → Ordering
  seen_cmp x y = cmp (view x) (view y)

  abbrev tested : K → List X → Bool
  tested q xs = list_any (λ x. is_eq (cmp q (view x))) xs

  tested_seen : (q : K) (xs : List X) → list_any (λ k. is_eq (cmp q k)) (map view xs) ≡ tested q xs
  tested_seen q [] = refl
  tested_seen q (x ∷ xs) = ap (λ b. is_eq (cmp q (view x)) || b) (tested_seen q xs)

  strict_rises : (xs : List X) → IsStrictlySortedBy seen_cmp xs → rises_by cmp (λ k. k) (map view xs) ≡ true
  unfolding IsStrictlySortedBy
  strict_rises [] h = refl
  strict_rises (x ∷ xs) h = and_from _ _ (over xs h.0) (strict_rises xs h.1)
    where
      over : (ys : List X) → AllByRecursion (λ y. seen_cmp x y ≡ Less) ys → list_all (λ y. is_lt (cmp (view x) y)) (map view ys) ≡ true
      over [] a = refl
      over (y ∷ ys) a = and_from _ _ (ap is_lt a.0) (over ys a.1)

  module _ (eq : X → X → Bool) (ties : (x y : X) → eq x y ≡ is_eq (cmp (view x) (view y))) where
    seen_same : (x y : X) → eq x y ≡ true → view x ≡ view y
    seen_same x y h = exact (view x) (view y) ((Equal-is _).0 (sym (ties x y) ∙ h))

    any_dedup_from : (q : K) (k : X) (xs : List X) → tested q (dedup_from eq k xs) ≡ (is_eq (cmp q (view k)) || tested q xs)
    any_dedup_from q k [] = refl
    any_dedup_from q k (x ∷ xs) = by (any_dedup_from q k xs) (any_dedup_from q x xs) (eq x k) refl
      where
        twice : (a b : Bool) → (a || b) ≡ (a || (a || b))
        twice true b = refl
        twice false b = refl

        by : tested q (dedup_from eq k xs) ≡ (is_eq (cmp q (view k)) || tested q xs)
            → tested q (dedup_from eq x xs) ≡ (is_eq (cmp q (view x)) || tested q xs) → (b : Bool) → eq x k ≡ b
            → tested q (cond b (dedup_from eq k xs) (k ∷ dedup_from eq x xs))
            ≡ (is_eq (cmp q (view k)) || (is_eq (cmp q (view x)) || tested q xs))
        by one other true e = one ∙ twice (is_eq (cmp q (view k))) (tested q xs)
            ∙ ap (λ (i : K). is_eq (cmp q (view k)) || (is_eq (cmp q i) || tested q xs)) (sym (seen_same x k e))
        by one other false e = ap (λ b. is_eq (cmp q (view k)) || b) other

    any_dedup : (q : K) (xs : List X) → tested q (dedup eq xs) ≡ tested q xs
    any_dedup q [] = refl
    any_dedup q (x ∷ xs) = any_dedup_from q x xs

    -- seen, items sorted and listed once are the rising ones
    pub sorted_once : (items sorted once : List X) → IsPermutation items sorted → IsSorted seen_cmp sorted
        → IsFiltered (DiffersFromLast eq) [] sorted once → map view once ≡ rising cmp (map view items)
    sorted_once items sorted once p s f =
        ap (map view) (dedup_is eq sorted once f)
        ∙ same_tested cmp o exact (map view (dedup eq sorted)) (rising cmp (map view items))
        (strict_rises (dedup eq sorted) (IsStrictlySortedBy-dedup (on_total view o) ties sorted s))
        (rises-rising cmp o (map view items))
        (λ q.
        tested_seen q (dedup eq sorted) ∙ any_dedup q sorted ∙ sym (list_any-IsPermutation (λ x. is_eq (cmp q (view x))) items sorted p)
        ∙ sym (tested_seen q items) ∙ sym (tested_rising cmp o exact q (map view items)))
