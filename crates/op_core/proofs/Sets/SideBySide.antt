-- Two rising lists walked side by side for their clash.
use Rattle.std.proofs.Common.{◌≡◌, Bool, true, false, not, cond, List, [], ◌∷◌, length, Option, Some, None, arith, refl, sym, ap, subst, ◌∙◌}
use Rattle.std.specs.declared.cmp.Ordering.{Ordering}
use Rattle.std.specs.declared.cmp.Ordering.TheVariants.{Less, Equal, Greater}
use Rattle.std.specs.List.{list_all, find}
use Rattle.std.specs.Option.{option_map}
use Rattle.std.proofs.lemmas.Bool.{and_parts, and_from, cond-true, cond-false, not-false, not-true}
use Rattle.op_core.specs.Ids.{Id, id_cmp, same_id, id_below}
use Rattle.op_core.specs.Ops.{Operation, agree}
use Rattle.op_core.specs.Sets.{rises, get, differs, clash}
use Rattle.op_core.specs.Equal.{same_id-refl}
use Rattle.op_core.proofs.Sets.Union.{AllAbove, above_trans, rises_parts, get_above, apart_above, less_below, greater_below, equal_ids}

-- ---- the clash, from the front

-- an operation below all of the others is met by none of them
find_beyond : (x : Operation) (xs ys : List Operation) → AllAbove x.id ys
    → find (λ (o : Operation). differs (get (x ∷ xs) o.id) o) ys ≡ find (λ (o : Operation). differs (get xs o.id) o) ys
find_beyond x xs [] h = refl
find_beyond x xs (o ∷ ys) h =
    let p = and_parts (id_below x.id o.id) (list_all (λ p. id_below x.id p.id) ys) h in
    let e : get (x ∷ xs) o.id ≡ get xs o.id = cond-false (same_id o.id x.id) (Some x) (get xs o.id) (apart_above o.id x.id p.0) in
    λ i. cond (differs (e i) o) (Some o) (find_beyond x xs ys p.1 i)

clash_beyond : (x : Operation) (xs ys : List Operation) → AllAbove x.id ys → clash (x ∷ xs) ys ≡ clash xs ys
clash_beyond x xs ys h = ap (option_map (λ (o : Operation). o.id)) (find_beyond x xs ys h)

-- an empty set clashes with none
pub clash_none : (ys : List Operation) → clash [] ys ≡ None
clash_none [] = refl
clash_none (y ∷ ys) = clash_none ys

-- what the pair at the two fronts says of the clash
module _ (x y : Operation) (xs ys : List Operation) (hx : rises (x ∷ xs) ≡ true) (hy : rises (y ∷ ys) ≡ true) where
  -- side by side, an operation with the lower id is passed over in the first set
  pub clash_less : id_cmp x.id y.id ≡ Less → clash xs (y ∷ ys) ≡ clash (x ∷ xs) (y ∷ ys)
  clash_less e = sym (clash_beyond x xs (y ∷ ys)
      (and_from _ _ (less_below x y e) (above_trans x.id y.id ys (less_below x y e) (rises_parts y ys hy).0)))

  -- and in the second
  pub clash_greater : id_cmp x.id y.id ≡ Greater → clash (x ∷ xs) ys ≡ clash (x ∷ xs) (y ∷ ys)
  clash_greater e =
      let below : id_below y.id x.id ≡ true = greater_below x y e in
      let none : get (x ∷ xs) y.id
      ≡ None = get_above y.id (x ∷ xs) (and_from _ _ below (above_trans y.id x.id xs below (rises_parts x xs hx).0)) in
      sym (ap (λ (r : Option Operation). option_map (λ (o : Operation). o.id)
      (cond (differs r y) (Some y) (find (λ (o : Operation). differs (get (x ∷ xs) o.id) o) ys))) none)

  held_here : id_cmp x.id y.id ≡ Equal → get (x ∷ xs) y.id ≡ Some x
  held_here e = cond-true (same_id y.id x.id) (Some x) (get xs y.id) (ap (same_id y.id) (equal_ids x y e) ∙ same_id-refl y.id)

  -- two of one id that agree are passed over
  pub clash_equal : id_cmp x.id y.id ≡ Equal → agree x y ≡ true → clash xs ys ≡ clash (x ∷ xs) (y ∷ ys)
  clash_equal e same =
      let above : AllAbove x.id ys = subst (λ (i : Id). AllAbove i ys) (sym (equal_ids x y e)) (rises_parts y ys hy).0 in
      let fine : differs (get (x ∷ xs) y.id) y ≡ false = ap (λ (r : Option Operation). differs r y) (held_here e) ∙ ap not same in
      sym (ap (option_map (λ (o : Operation). o.id))
      (cond-false _ (Some y) (find (λ (o : Operation). differs (get (x ∷ xs) o.id) o) ys) fine) ∙ clash_beyond x xs ys above)

  -- two of one id that do not agree are the clash
  pub clash_here : id_cmp x.id y.id ≡ Equal → agree x y ≡ false → Some x.id ≡ clash (x ∷ xs) (y ∷ ys)
  clash_here e other =
      let bad : differs (get (x ∷ xs) y.id) y ≡ true = ap (λ (r : Option Operation). differs r y) (held_here e) ∙ ap not other in
      ap Some (equal_ids x y e)
      ∙ sym (ap (option_map (λ (o : Operation). o.id))
      (cond-true _ (Some y) (find (λ (o : Operation). differs (get (x ∷ xs) o.id) o) ys) bad))

-- one turn of the walk
module _ (held other left right : List Operation) (x y : Operation) (xs ys : List Operation) (el : left ≡ x ∷ xs) (er : right ≡ y ∷ ys)
    (hl : rises left ≡ true) (hr : rises right ≡ true) (same : clash left right ≡ clash held other) where
  hx : rises (x ∷ xs) ≡ true
  hx = subst (λ (zs : List Operation). rises zs ≡ true) el hl

  hy : rises (y ∷ ys) ≡ true
  hy = subst (λ (zs : List Operation). rises zs ≡ true) er hr

  both : clash left right ≡ clash (x ∷ xs) (y ∷ ys)
  both i = clash (el i) (er i)

  pub left_rises : rises xs ≡ true
  left_rises = (rises_parts x xs hx).1

  pub right_rises : rises ys ≡ true
  right_rises = (rises_parts y ys hy).1

  pub turn_less : id_cmp x.id y.id ≡ Less → clash xs right ≡ clash held other
  turn_less e = ap (clash xs) er ∙ clash_less x y xs ys hx hy e ∙ sym both ∙ same

  pub turn_greater : id_cmp x.id y.id ≡ Greater → clash left ys ≡ clash held other
  turn_greater e = ap (λ (zs : List Operation). clash zs ys) el ∙ clash_greater x y xs ys hx hy e ∙ sym both ∙ same

  pub turn_equal : id_cmp x.id y.id ≡ Equal → agree x y ≡ true → clash xs ys ≡ clash held other
  turn_equal e f = clash_equal x y xs ys hx hy e f ∙ sym both ∙ same

  pub turn_clash : id_cmp x.id y.id ≡ Equal → agree x y ≡ false → Some x.id ≡ clash held other
  turn_clash e f = clash_here x y xs ys hx hy e f ∙ sym both ∙ same

-- what the code's steps say, in the words of the walk
pub ids_compare : (x y : Operation) (a b : Id) (o : Ordering) → a ≡ x.id → b ≡ y.id → o ≡ id_cmp a b → id_cmp x.id y.id ≡ o
ids_compare x y a b o ea eb h = sym (h ∙ (λ i. id_cmp (ea i) (eb i)))

pub are_same : (x y : Operation) (r : Bool) → r ≡ not (agree x y) → r ≡ false → agree x y ≡ true
are_same x y r e f = not-false (agree x y) (sym e ∙ f)

pub are_not_same : (x y : Operation) (r : Bool) → r ≡ not (agree x y) → r ≡ true → agree x y ≡ false
are_not_same x y r e f = not-true (agree x y) (sym e ∙ f)

pub none_right : (held other left right : List Operation) → right ≡ [] → clash left right ≡ clash held other → None ≡ clash held other
none_right held other left right e h = ap (clash left) (sym e) ∙ h

pub none_left : (held other left right : List Operation) → left ≡ [] → clash left right ≡ clash held other → None ≡ clash held other
none_left held other left right e h = sym (clash_none right) ∙ ap (λ (zs : List Operation). clash zs right) (sym e) ∙ h

pub from_empty : (xs : List Operation) → length xs ≡ 0 → xs ≡ []
from_empty [] h = refl
from_empty (x ∷ xs) h = absurd (omega (arith, h))
