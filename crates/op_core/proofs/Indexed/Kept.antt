-- What an index keeps of a union.
use Rattle.std.proofs.Common.{◌≡◌, Bool, true, false, not, cond, ◌&&◌, ◌||◌, List, [], ◌∷◌, Some, None, filter, refl, sym, ap, subst, ◌∙◌}
use Rattle.std.specs.declared.cmp.Ordering.TheVariants.{Less, Equal, Greater}
use Rattle.std.specs.Ordering.{is_eq, is_lt}
use Rattle.std.specs.List.{list_any, list_all}
use Rattle.std.specs.FinMap.Entries.{by_order}
use Rattle.std.proofs.lemmas.Bool.{cond-true, cond-false}
use Rattle.usfm_ref.specs.Segments.{segment_cmp}
use Rattle.usfm_ref.specs.declared.segment.Segment.{Segment}
use Rattle.usfm_ref.proofs.Orders.{segment_total, same_segment-cmp}
use Rattle.usfm_ref.proofs.Sorted.{rises_filter, tied_back}
use Rattle.op_core.specs.Ids.{Id, id_cmp, same_id, ids_rise}
use Rattle.op_core.specs.Equal.{id_from_same}
use Rattle.op_core.specs.Ops.{Operation, in_segment}
use Rattle.op_core.specs.Sets.{rises, get, meet, met, put, join}
use Rattle.op_core.specs.Shown.{is_replaced, shown}
use Rattle.op_core.specs.Lists.{ids_of, shown_ids}
use Rattle.op_core.specs.Loops.Index.{is_in, IsIndex, Lays, AreApart}
use Rattle.op_core.specs.declared.index.chapter.Chapter.{Chapter}
use Rattle.op_core.proofs.IdOrders.Rising.{id_total, same_id-cmp}
use Rattle.op_core.proofs.Sets.Union.{rises_parts, get_above, get-join}

-- ---- ids of rising operations rise

above_ids : (id : Id) (ops : List Operation) → list_all (λ (i : Id). is_lt (id_cmp id i)) (ids_of ops)
    ≡ list_all (λ (o : Operation). is_lt (id_cmp id o.id)) ops
above_ids id [] = refl
above_ids id (o ∷ ops) = ap (λ b. is_lt (id_cmp id o.id) && b) (above_ids id ops)

pub rises_ids : (ops : List Operation) → ids_rise (ids_of ops) ≡ rises ops
rises_ids [] = refl
rises_ids (o ∷ ops) = λ i. above_ids o.id ops i && rises_ids ops i

-- the ids that a segment shows rise
pub shown_ids_rise : (ops : List Operation) (g : Segment) → rises ops ≡ true → ids_rise (shown_ids ops g) ≡ true
shown_ids_rise ops g h = rises_ids (shown ops g) ∙ rises_filter id_cmp id_total (λ (o : Operation). o.id) _ ops h

-- ---- what is shown, by its ids

-- an id is shown where an operation of the segment has it and none names it
pub any_shown : (ops : List Operation) (g : Segment) (q : Id)
    → list_any (same_id q) (shown_ids ops g) ≡ (is_in ops g q && not (is_replaced ops g q))
any_shown ops g q = over ops
  where
    hides : Id → Bool
    hides id = is_replaced ops g id

    one : (x : Operation) (rest : List Operation) → list_any (same_id q) (ids_of (filter (λ o. in_segment g o && not (hides o.id)) rest))
        ≡ (is_in rest g q && not (hides q)) → (s i r : Bool) → same_id q x.id ≡ s → in_segment g x ≡ i → hides x.id ≡ r
        → list_any (same_id q)
        (ids_of (cond (i && not r) (x ∷ filter (λ o. in_segment g o && not (hides o.id)) rest)
        (filter (λ o. in_segment g o && not (hides o.id)) rest))) ≡ (((i && s) || is_in rest g q) && not (hides q))
    one x rest h s false r es ei er = h
    one x rest h false true true es ei er = h
    one x rest h false true false es ei er =
        ap (λ b. b || list_any (same_id q) (ids_of (filter (λ o. in_segment g o && not (hides o.id)) rest))) es ∙ h
    one x rest h true true r es ei er =
        let same : hides q ≡ r = ap hides (id_from_same q x.id es) ∙ er in
        by r same
      where
        gone : (b : Bool) → (b && false) ≡ false
        gone true = refl
        gone false = refl

        by : (r : Bool) → hides q ≡ r → list_any (same_id q)
            (ids_of (cond (true && not r) (x ∷ filter (λ o. in_segment g o && not (hides o.id)) rest)
            (filter (λ o. in_segment g o && not (hides o.id)) rest))) ≡ ((true || is_in rest g q) && not (hides q))
        by true e = h ∙ ap (λ b. is_in rest g q && not b) e ∙ gone (is_in rest g q) ∙ ap not (sym e)
        by false e =
            ap (λ b. b || list_any (same_id q) (ids_of (filter (λ o. in_segment g o && not (hides o.id)) rest))) es ∙ ap not (sym e)

    over : (rest : List Operation) → list_any (same_id q) (ids_of (filter (λ o. in_segment g o && not (hides o.id)) rest))
        ≡ (is_in rest g q && not (hides q))
    over [] = refl
    over (x ∷ rest) = one x rest (over rest) (same_id q x.id) (in_segment g x) (hides x.id) refl refl refl

-- ---- tests with one operation more

-- an id that ties is held, so a new one does not
pub tied_held : (o p : Operation) (ops : List Operation) → id_cmp o.id p.id ≡ Equal → get (p ∷ ops) o.id ≡ None → ⊥
tied_held o p ops e g = cc (sym (cond-true (same_id o.id p.id) (Some p) (get ops o.id) (same_id-cmp o.id p.id ∙ ap is_eq e)) ∙ g)

pub rest_none : (o p : Operation) (ops : List Operation) → id_cmp o.id p.id ≡ Greater → get (p ∷ ops) o.id ≡ None → get ops o.id ≡ None
rest_none o p ops e g = sym (cond-false (same_id o.id p.id) (Some p) (get ops o.id) (same_id-cmp o.id p.id ∙ ap is_eq e)) ∙ g

pub any_put : (p : Operation → Bool) (o : Operation) (ops : List Operation) → get ops o.id ≡ None
    → list_any p (put o ops) ≡ (p o || list_any p ops)
any_put p o [] g = refl
any_put p o (x ∷ ops) g =
    elim (id_cmp o.id x.id)
    as (λ r. id_cmp o.id x.id ≡ r → list_any p (by_order r (o ∷ x ∷ ops) (meet x o ∷ ops) (x ∷ put o ops))
    ≡ (p o || list_any p (x ∷ ops))) [
      | Less ↦ λ e. refl
      | Equal ↦ λ e. absurd (tied_held o x ops e g)
      | Greater ↦ λ e. ap (λ b. p x || b) (any_put p o ops (rest_none o x ops e g)) ∙ swap_or (p x) (p o) (list_any p ops)
    ] refl
  where
    swap_or : (a b c : Bool) → (a || (b || c)) ≡ (b || (a || c))
    swap_or true true c = refl
    swap_or true false c = refl
    swap_or false true c = refl
    swap_or false false c = refl

-- ---- the index

pub index_laid : (ops : List Operation) (before after : List Chapter) → IsIndex ops before → Lays before after → IsIndex ops after
index_laid ops before after h p = record {
  orderly = p.orderly;
  keeps = record {
    shown = λ k. p.shown k ∙ h.keeps.shown k;
    rising = λ k. subst (λ (ids : List Id). ids_rise ids ≡ true) (sym (p.missing k)) (h.keeps.rising k);
    missing = λ k q. ap (list_any (same_id q)) (p.missing k) ∙ h.keeps.missing k q;
  };
}

-- the test of a segment is that of the order
pub in_segment-is : (g : Segment) (o : Operation) → in_segment g o ≡ is_eq (segment_cmp g o.segment)
in_segment-is g o = same_segment-cmp o.segment g ∙ sym (tied_back segment_cmp segment_total o.segment g _ refl)

-- what one of the operations of a union is, one of either set is, where these hold no id both
pub any_join : (p : Operation → Bool) (held new : List Operation) → rises held ≡ true → rises new ≡ true → AreApart held new
    → list_any p (join held new) ≡ (list_any p held || list_any p new)
any_join p held [] hh hn apart = or_false (list_any p held)
  where
    or_false : (b : Bool) → b ≡ (b || false)
    or_false true = refl
    or_false false = refl
any_join p held (o ∷ new) hh hn apart =
    let q = rises_parts o new hn in
    let none : get (join held new) o.id ≡ None = get-join held new o.id hh q.1 ∙ (λ i. met (apart.0 i) (get_above o.id new q.0 i)) in
    any_put p o (join held new) none ∙ ap (λ b. p o || b) (any_join p held new hh q.1 apart.1)
    ∙ swap (p o) (list_any p held) (list_any p new)
  where
    swap : (a b c : Bool) → (a || (b || c)) ≡ (b || (a || c))
    swap true true c = refl
    swap true false c = refl
    swap false b c = refl
