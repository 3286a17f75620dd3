-- Rising lists of ids: what is among them, and how they change at the place of an id.
use Rattle.std.proofs.Common.{◌≡◌, ℕ, ◌<◌, ◌≤◌, Bool, true, false, not, cond, ◌&&◌, ◌||◌, List, [], ◌∷◌, Option, Some, None, length, get_or, subst, refl, sym, ap, ◌∙◌}
use Rattle.std.specs.Option.{is_some}
use Rattle.std.specs.Ordering.{is_eq}
use Rattle.std.specs.List.{list_any, insert, remove}
use Rattle.std.proofs.lemmas.Cmp.{eq_by_cmp_equiv}
use Rattle.usfm_ref.specs.Rising.{rises_by, placed}
use Rattle.usfm_ref.proofs.Sorted.{found, place, found_here, found_not, found_end, rises_filter}
use Rattle.usfm_ref.proofs.Placed.{found_placed, rises_placed, placed_same, placed_insert, others_at, others_none}
use Rattle.usfm_ref.proofs.Members.{same_items}
use Rattle.op_core.specs.Ids.{Id, id_cmp, same_id, ids_rise}
use Rattle.op_core.specs.Equal.{id_from_same}
use Rattle.op_core.specs.Loops.Index.{without}
use Rattle.op_core.proofs.IdOrders.Rising.{id_total, id_exact, same_id-cmp}

-- what is found under an id is the id
found_itself : (q : Id) (xs : List Id) → found id_cmp id_total (λ (i : Id). i) q xs ≡ cond (list_any (same_id q) xs) (Some q) None
found_itself q [] = refl
found_itself q (x ∷ xs) = ap (λ b. cond b (Some x) (found id_cmp id_total (λ (i : Id). i) q xs)) (sym (same_id-cmp q x))
    ∙ by (found_itself q xs) (same_id q x) refl
  where
    by : found id_cmp id_total (λ (i : Id). i) q xs ≡ cond (list_any (same_id q) xs) (Some q) None → (b : Bool) → same_id q x ≡ b
        → cond b (Some x) (found id_cmp id_total (λ (i : Id). i) q xs) ≡ cond (b || list_any (same_id q) xs) (Some q) None
    by rest true e = ap Some (sym (id_from_same q x e))
    by rest false e = rest

-- rising lists of the same ids are equal
pub same_members : (xs ys : List Id) → ids_rise xs ≡ true → ids_rise ys ≡ true
    → ((q : Id) → list_any (same_id q) xs ≡ list_any (same_id q) ys) → xs ≡ ys
same_members xs ys hx hy is = same_items id_cmp id_total id_exact xs ys hx hy
    (λ q. found_itself q xs ∙ ap (λ b. cond b (Some q) None) (is q) ∙ sym (found_itself q ys))

pub any-found : (q : Id) (xs : List Id) → list_any (same_id q) xs ≡ is_some (found id_cmp id_total (λ (i : Id). i) q xs)
any-found q [] = refl
any-found q (x ∷ xs) = (λ i. same_id-cmp q x i || any-found q xs i) ∙ is_it (is_eq (id_cmp q x))
  where
    is_it : (b : Bool) → (b || is_some (found id_cmp id_total (λ (i : Id). i) q xs))
        ≡ is_some (cond b (Some x) (found id_cmp id_total (λ (i : Id). i) q xs))
    is_it true = refl
    is_it false = refl

pub same_turned : (a b : Id) → same_id a b ≡ same_id b a
same_turned a b = same_id-cmp a b ∙ (eq_by_cmp_equiv id_total).symm a b ∙ sym (same_id-cmp b a)

-- whether an id is at its place among rising ones is whether it is among them
pub holds_at : (q : Id) (xs : List Id) (n : ℕ) (x : Id) (r : Bool) → rises_by id_cmp (λ (i : Id). i) xs ≡ true
    → n ≡ place id_cmp id_total (λ (i : Id). i) q xs → n < length xs → x ≡ get_or xs n x → r ≡ same_id x q → r ≡ list_any (same_id q) xs
holds_at q xs n x r h e l hx s = by r refl ∙ sym (any-found q xs)
  where
    test : is_eq (id_cmp q x) ≡ r
    test = sym (same_id-cmp q x) ∙ same_turned q x ∙ sym s

    by : (b : Bool) → r ≡ b → r ≡ is_some (found id_cmp id_total (λ (i : Id). i) q xs)
    by true c = c ∙ ap is_some (sym (found_here id_cmp id_total (λ (i : Id). i) q xs n x h e l hx (test ∙ c)))
    by false c = c ∙ ap is_some (sym (found_not id_cmp id_total (λ (i : Id). i) q xs n x h e hx (test ∙ c)))

-- an id whose place is the end of rising ones is not among them
pub holds_end : (q : Id) (xs : List Id) (n : ℕ) → rises_by id_cmp (λ (i : Id). i) xs ≡ true → n ≡ place id_cmp id_total (λ (i : Id). i) q xs
    → length xs ≤ n → false ≡ list_any (same_id q) xs
holds_end q xs n h e l = sym (any-found q xs ∙ ap is_some (found_end id_cmp id_total (λ (i : Id). i) q xs n h e l))

-- ---- whether an id is among those of a changed list

pub any_placed : (q id : Id) (xs : List Id) → list_any (same_id q) (placed id_cmp (λ (i : Id). i) id xs)
    ≡ (same_id q id || list_any (same_id q) xs)
any_placed q id xs = any-found q _ ∙ ap is_some (found_placed id_cmp id_total (λ (i : Id). i) q id xs)
    ∙ is_it (is_eq (id_cmp q id)) (found id_cmp id_total (λ (i : Id). i) q xs) ∙ (λ i. sym (same_id-cmp q id) i || sym (any-found q xs) i)
  where
    is_it : (b : Bool) (r : Option Id) → is_some (cond b (Some id) r) ≡ (b || is_some r)
    is_it true r = refl
    is_it false r = refl

pub any_without : (q id : Id) (xs : List Id) → list_any (same_id q) (without id xs) ≡ (list_any (same_id q) xs && not (same_id q id))
any_without q id [] = refl
any_without q id (x ∷ xs) = by (any_without q id xs) (is_eq (id_cmp id x)) refl (same_id q x) refl
  where
    never : (b : Bool) → (b && false) ≡ false
    never true = refl
    never false = refl

    apart : is_eq (id_cmp id x) ≡ false → same_id q x ≡ true → same_id q id ≡ false
    apart e f =
        let s : q ≡ x = id_from_same q x f in
        ap (λ (i : Id). same_id i id) s ∙ same_turned x id ∙ same_id-cmp id x ∙ e

    by : list_any (same_id q) (without id xs) ≡ (list_any (same_id q) xs && not (same_id q id)) → (b : Bool) → is_eq (id_cmp id x) ≡ b
        → (c : Bool) → same_id q x ≡ c → list_any (same_id q) (cond (not b) (x ∷ without id xs) (without id xs))
        ≡ ((c || list_any (same_id q) xs) && not (same_id q id))
    by rest true e true f =
        let s : id ≡ x = id_from_same id x (same_id-cmp id x ∙ e) in
        let t : same_id q id ≡ true = ap (same_id q) s ∙ f in
        rest ∙ ap (λ b. list_any (same_id q) xs && not b) t ∙ never (list_any (same_id q) xs) ∙ ap not (sym t)
    by rest true e false f = rest
    by rest false e true f =
        let t : same_id q id ≡ false = apart e f in
        ap (λ b. b || list_any (same_id q) (without id xs)) f ∙ ap not (sym t)
    by rest false e false f = ap (λ b. b || list_any (same_id q) (without id xs)) f ∙ rest

pub any_turned : (q : Id) (xs : List Id) → list_any (λ n. same_id n q) xs ≡ list_any (same_id q) xs
any_turned q [] = refl
any_turned q (x ∷ xs) = λ i. same_turned x q i || any_turned q xs i

-- ---- a rising list changed at the place of an id

module _ (id : Id) (xs : List Id) (n : ℕ) (h : rises_by id_cmp (λ (i : Id). i) xs ≡ true)
    (e : n ≡ place id_cmp id_total (λ (i : Id). i) id xs) where
  tied : (x : Id) (r : Bool) → r ≡ same_id x id → r ≡ true → is_eq (id_cmp id x) ≡ true
  tied x r s t = sym (same_id-cmp id x) ∙ same_turned id x ∙ sym s ∙ t

  apart : (x : Id) (r : Bool) → r ≡ same_id x id → r ≡ false → is_eq (id_cmp id x) ≡ false
  apart x r s t = sym (same_id-cmp id x) ∙ same_turned id x ∙ sym s ∙ t

  pub put_same : (x : Id) (r : Bool) → n < length xs → x ≡ get_or xs n x → r ≡ same_id x id → r ≡ true
      → xs ≡ placed id_cmp (λ (i : Id). i) id xs
  put_same x r l hx s t =
      let same : x ≡ id = id_from_same x id (sym s ∙ t) in
      placed_same id_cmp id_total (λ (i : Id). i) id xs n h e l (subst (λ (y : Id). y ≡ get_or xs n y) same hx)

  pub put_other : (x : Id) (r : Bool) → x ≡ get_or xs n x → r ≡ same_id x id → r ≡ false
      → insert xs n id ≡ placed id_cmp (λ (i : Id). i) id xs
  put_other x r hx s t =
      placed_insert id_cmp id_total (λ (i : Id). i) id xs n e (found_not id_cmp id_total (λ (i : Id). i) id xs n x h e hx (apart x r s t))

  pub put_end : length xs ≤ n → insert xs n id ≡ placed id_cmp (λ (i : Id). i) id xs
  put_end l = placed_insert id_cmp id_total (λ (i : Id). i) id xs n e (found_end id_cmp id_total (λ (i : Id). i) id xs n h e l)

  pub take_same : (x : Id) (r : Bool) → n < length xs → x ≡ get_or xs n x → r ≡ same_id x id → r ≡ true → remove xs n ≡ without id xs
  take_same x r l hx s t = others_at id_cmp id_total (λ (i : Id). i) id xs n x h e l hx (tied x r s t)

  pub take_other : (x : Id) (r : Bool) → x ≡ get_or xs n x → r ≡ same_id x id → r ≡ false → xs ≡ without id xs
  take_other x r hx s t =
      others_none id_cmp id_total (λ (i : Id). i) id xs (found_not id_cmp id_total (λ (i : Id). i) id xs n x h e hx (apart x r s t))

  pub take_end : length xs ≤ n → xs ≡ without id xs
  take_end l = others_none id_cmp id_total (λ (i : Id). i) id xs (found_end id_cmp id_total (λ (i : Id). i) id xs n h e l)

-- ---- changed lists still rise

pub without_rises : (id : Id) (xs ys : List Id) → ys ≡ without id xs → ids_rise xs ≡ true → ids_rise ys ≡ true
without_rises id xs ys e h = ap ids_rise e ∙ rises_filter id_cmp id_total (λ (i : Id). i) (λ (i : Id). not (is_eq (id_cmp id i))) xs h

pub put_rises : (id : Id) (xs ys : List Id) → ys ≡ placed id_cmp (λ (i : Id). i) id xs → ids_rise xs ≡ true → ids_rise ys ≡ true
put_rises id xs ys e h = ap ids_rise e ∙ rises_placed id_cmp id_total (λ (i : Id). i) id xs h
