-- The union of two rising lists from their fronts, and three sets joined in both groupings.
use Rattle.std.proofs.Common.{◌≡◌, true, List, [], ◌∷◌, refl, sym, ap, subst, ◌∙◌}
use Rattle.std.specs.declared.cmp.Ordering.{Ordering}
use Rattle.std.specs.declared.cmp.Ordering.TheVariants.{Less, Equal, Greater}
use Rattle.std.specs.Ordering.{ordering_reverse}
use Rattle.std.specs.List.{list_all}
use Rattle.std.specs.FinMap.Entries.{by_order}
use Rattle.std.proofs.lemmas.Bool.{and_parts, and_from}
use Rattle.usfm_ref.proofs.Sorted.{is_less}
use Rattle.op_core.specs.Ids.{Id, id_cmp, id_below}
use Rattle.op_core.specs.Ops.{Operation}
use Rattle.op_core.specs.Sets.{rises, meet, put, join}
use Rattle.op_core.proofs.IdOrders.Rising.{id_total}
use Rattle.op_core.proofs.Sets.Union.{AllAbove, above_trans, above-put, rises_parts, less_below, greater_below, equal_ids}

-- ---- the union, from the front

-- an operation below all of a list is put before it
pub put_first : (o : Operation) (ops : List Operation) → AllAbove o.id ops → put o ops ≡ o ∷ ops
put_first o [] h = refl
put_first o (p ∷ ops) h = rw (is_less (id_cmp o.id p.id) (and_parts (id_below o.id p.id) (list_all (λ p. id_below o.id p.id) ops) h).0) refl

above-join : (id : Id) (xs ys : List Operation) → AllAbove id xs → AllAbove id ys → AllAbove id (join xs ys)
above-join id xs [] hx hy = hx
above-join id xs (y ∷ ys) hx hy =
    let p = and_parts (id_below id y.id) (list_all (λ p. id_below id p.id) ys) hy in
    above-put id y (join xs ys) p.0 (above-join id xs ys hx p.1)

-- a held operation below all of the others comes first
join_beyond : (x : Operation) (xs ys : List Operation) → AllAbove x.id ys → join (x ∷ xs) ys ≡ x ∷ join xs ys
join_beyond x xs [] h = refl
join_beyond x xs (y ∷ ys) h =
    let p = and_parts (id_below x.id y.id) (list_all (λ p. id_below x.id p.id) ys) h in
    let above : id_cmp y.id x.id ≡ Greater = id_total.antisymm y.id x.id ∙ ap ordering_reverse (is_less (id_cmp x.id y.id) p.0) in
    ap (put y) (join_beyond x xs ys p.1)
    ∙ ap (λ (r : Ordering). by_order r (y ∷ x ∷ join xs ys) (meet x y ∷ join xs ys) (x ∷ put y (join xs ys))) above

-- joining to nothing gives the set
pub join_none : (ys : List Operation) → rises ys ≡ true → join [] ys ≡ ys
join_none [] h = refl
join_none (y ∷ ys) h =
    let p = rises_parts y ys h in
    ap (put y) (join_none ys p.1) ∙ put_first y ys p.0

-- what the pair at the two fronts says of the union
module _ (x y : Operation) (xs ys : List Operation) (hx : rises (x ∷ xs) ≡ true) (hy : rises (y ∷ ys) ≡ true) where
  -- the first operation of a union is that of the first set, where its id is lower
  pub join_less : id_cmp x.id y.id ≡ Less → join (x ∷ xs) (y ∷ ys) ≡ x ∷ join xs (y ∷ ys)
  join_less e =
      let below = less_below x y e in
      join_beyond x xs (y ∷ ys) (and_from _ _ below (above_trans x.id y.id ys below (rises_parts y ys hy).0))

  -- it is that of the second set, where that one's id is lower
  pub join_greater : id_cmp x.id y.id ≡ Greater → join (x ∷ xs) (y ∷ ys) ≡ y ∷ join (x ∷ xs) ys
  join_greater e =
      let below = greater_below x y e in
      let above = and_from _ _ below (above_trans y.id x.id xs below (rises_parts x xs hx).0) in
      put_first y (join (x ∷ xs) ys) (above-join y.id (x ∷ xs) ys above (rises_parts y ys hy).0)

  -- it is what the two meet in, where they have one id
  pub join_tied : id_cmp x.id y.id ≡ Equal → join (x ∷ xs) (y ∷ ys) ≡ meet x y ∷ join xs ys
  join_tied e =
      let same = equal_ids x y e in
      let tied : id_cmp y.id x.id ≡ Equal = id_total.antisymm y.id x.id ∙ ap ordering_reverse e in
      let above : AllAbove x.id ys = subst (λ (i : Id). AllAbove i ys) (sym same) (rises_parts y ys hy).0 in
      ap (put y) (join_beyond x xs ys above)
      ∙ ap (λ (r : Ordering). by_order r (y ∷ x ∷ join xs ys) (meet x y ∷ join xs ys) (x ∷ put y (join xs ys))) tied
