-- Rising lists with an item put between those before its key and those after it.
use Rattle.std.proofs.Common.{◌≡◌, ℕ, suc, ◌≤◌, Bool, true, false, List, [], ◌∷◌}
use Rattle.std.proofs.Common.{◌++◌, None, length, take, refl, sym, ap, subst, ◌∙◌}
use Rattle.std.specs.declared.cmp.Ordering.{Ordering}
use Rattle.std.specs.declared.cmp.Ordering.TheVariants.{Less, Equal, Greater}
use Rattle.std.specs.Ordering.{is_eq, is_lt, is_gt}
use Rattle.std.specs.List.{insert}
use Rattle.std.specs.Cmp.{IsTotalOrder}
use Rattle.std.proofs.lemmas.Bool.{and_from, cond-false}
use Rattle.std.proofs.lemmas.List.{length-take-le}
use Rattle.usfm_ref.specs.Rising.{rises_by}
use Rattle.usfm_ref.proofs.Sorted as sorted
use Rattle.op_core.specs.Loops.Index.{begins_above}

is_greater : (r : Ordering) → is_gt r ≡ true → r ≡ Greater
is_greater Less h = cc
is_greater Equal h = cc
is_greater Greater h = refl

insert_seam : {X : Type 0} (xs zs : List X) (y : X) → insert (xs ++ zs) (length xs) y ≡ xs ++ y ∷ zs
insert_seam [] [] y = refl
insert_seam [] (z ∷ zs) y = refl
insert_seam (x ∷ xs) zs y = ap (λ ws. x ∷ ws) (insert_seam xs zs y)

pub put_between : {X : Type 0} (xs zs : List X) (n : ℕ) (y : X) → n ≤ length xs → insert (take n xs ++ zs) n y ≡ take n xs ++ y ∷ zs
put_between xs zs n y l = ap (λ m. insert (take n xs ++ zs) m y) (sym (length-take-le n xs l)) ∙ insert_seam (take n xs) zs y

module _ {K X : Type 0} (R : K → K → Ordering) (o : IsTotalOrder R) (key : X → K) where
  abbrev Above : K → List X → Type 0
  Above = sorted.Above R o key

  abbrev place : K → List X → ℕ
  place = sorted.place R o key

  above_front : (k : K) (xs ys : List X) → Above k (xs ++ ys) → Above k xs
  above_front k [] ys h = refl
  above_front k (x ∷ xs) ys h = let p = sorted.first_above R o key k x (xs ++ ys) h in and_from _ _ p.0 (above_front k xs ys p.1)

  pub rises_front : (xs ys : List X) → rises_by R key (xs ++ ys) ≡ true → rises_by R key xs ≡ true
  rises_front [] ys h = refl
  rises_front (x ∷ xs) ys h = let p = sorted.parts R o key x (xs ++ ys) h in
      and_from _ _ (above_front (key x) xs ys p.0) (rises_front xs ys p.1)

  rises_back : (xs ys : List X) → rises_by R key (xs ++ ys) ≡ true → rises_by R key ys ≡ true
  rises_back [] ys h = h
  rises_back (x ∷ xs) ys h = rises_back xs ys (sorted.parts R o key x (xs ++ ys) h).1

  place_first : (q : K) (zs : List X) → begins_above R key q zs ≡ true → 0 ≡ place q zs
  place_first q [] h = refl
  place_first q (z ∷ zs) h = sym (sorted.place_here R o key q z zs (ap is_lt (is_greater (R (key z) q) h)))

  found_first : (q : K) (zs : List X) → rises_by R key zs ≡ true → begins_above R key q zs ≡ true → sorted.found R o key q zs ≡ None
  found_first q [] r h = refl
  found_first q (z ∷ zs) r h =
      let l : R q (key z) ≡ Less = sorted.back R o key (key z) q Greater (is_greater (R (key z) q) h) in
      sorted.above_none R o key q (z ∷ zs)
      (and_from _ _ (ap is_lt l) (sorted.above_trans R o key q (key z) zs l (sorted.parts R o key z zs r).0))

  -- the place of a key is where those before it end
  pub place_between : (q : K) (xs zs : List X) (n : ℕ) → n ≡ place q xs → begins_above R key q zs ≡ true → n ≡ place q (take n xs ++ zs)
  place_between q [] zs n e h = subst (λ (m : ℕ). m ≡ place q (take m [] ++ zs)) (sym e) (place_first q zs h)
  place_between q (x ∷ xs) zs n e h = by (place_between q xs zs (place q xs) refl h) (is_lt (R (key x) q)) refl
    where
      by : place q xs ≡ place q (take (place q xs) xs ++ zs) → (b : Bool) → is_lt (R (key x) q) ≡ b → n ≡ place q (take n (x ∷ xs) ++ zs)
      by rest true t = subst (λ (m : ℕ). m ≡ place q (take m (x ∷ xs) ++ zs)) (sym (e ∙ sorted.place_later R o key q x xs t)) (ap suc rest
          ∙ sym (sorted.place_later R o key q x (take (place q xs) xs ++ zs) t))
      by rest false t =
          subst (λ (m : ℕ). m ≡ place q (take m (x ∷ xs) ++ zs)) (sym (e ∙ sorted.place_here R o key q x xs t)) (place_first q zs h)

  -- and there is none of it
  none_before : (q : K) (xs zs : List X) (n : ℕ) → n ≡ place q xs → sorted.found R o key q zs ≡ None →
      sorted.found R o key q (take n xs ++ zs) ≡ None
  none_before q [] zs n e h = subst (λ (m : ℕ). sorted.found R o key q (take m [] ++ zs) ≡ None) (sym e) h
  none_before q (x ∷ xs) zs n e h = by (none_before q xs zs (place q xs) refl h) (is_lt (R (key x) q)) refl
    where
      by : sorted.found R o key q (take (place q xs) xs ++ zs) ≡ None → (b : Bool) → is_lt (R (key x) q) ≡ b →
          sorted.found R o key q (take n (x ∷ xs) ++ zs) ≡ None
      by rest true t =
          subst (λ (m : ℕ). sorted.found R o key q (take m (x ∷ xs) ++ zs) ≡ None) (sym (e ∙ sorted.place_later R o key q x xs t))
          (cond-false _ _ _ (ap is_eq (sorted.back R o key (key x) q Less (sorted.is_less _ t))) ∙ rest)
      by rest false t =
          subst (λ (m : ℕ). sorted.found R o key q (take m (x ∷ xs) ++ zs) ≡ None) (sym (e ∙ sorted.place_here R o key q x xs t)) h

  pub none_between : (q : K) (xs zs : List X) (n : ℕ) → n ≡ place q xs → rises_by R key (take n xs ++ zs) ≡ true →
      begins_above R key q zs ≡ true → sorted.found R o key q (take n xs ++ zs) ≡ None
  none_between q xs zs n e r h = none_before q xs zs n e (found_first q zs (rises_back (take n xs) zs r) h)
