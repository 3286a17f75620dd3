-- The walk that leaves out the texts which a bundle has thinned.
use Rattle.std.proofs.Common.{◌≡◌, Bool, true, false, not, cond, ◌&&◌, ◌||◌, List, [], ◌∷◌, Option, Some, None, refl, sym, ap, ◌∙◌}
use Rattle.std.specs.Option.{option_map}
use Rattle.std.proofs.lemmas.Bool.{and_from, and_parts}
use Rattle.op_core.specs.Ids.{Id, same_id}
use Rattle.op_core.specs.Ops.{Operation, is_full, is_thinned, bare}
use Rattle.op_core.specs.Sets.{get}
use Rattle.op_core.specs.Thinned.{is_past, all_full, bare_where, thin_where, is_thinned_in, ArePast}
use Rattle.op_core.proofs.Sets.Clashes.{get_id}
use Rattle.op_core.proofs.ThinnedSets.Left.{same_id-sym, where_then, where_agree, where_never}
use Rattle.op_core.proofs.ThinnedSets.TwoSteps.{get_where, past_where}

-- what is held so far, and the walk over what is left of the bundle
pub record IsLeaving (old all now walk : List Operation) : Type 0 where
  pub so_far : thin_where (is_thinned_in walk) now ≡ thin_where (is_thinned_in all) old
  pub past : ArePast (is_thinned_in walk) now

-- operations that are past stay so where texts are left out
past_still : (p r : Id → Bool) (s : List Operation) → ArePast r s → ArePast r (thin_where p s)
past_still p r s past o g passes = by (get s o.id) refl (sym (get_where p s o.id) ∙ g)
  where
    bare_left : (y : Operation) (b : Bool) → bare (cond b (bare y) y) ≡ bare y
    bare_left y true = refl
    bare_left y false = refl

    by : (m : Option Operation) → get s o.id ≡ m → option_map (bare_where p) (get s o.id) ≡ Some o → is_past (thin_where p s) o ≡ true
    by None d f = cc (sym (ap (option_map (bare_where p)) d) ∙ f)
    by (Some y) d f =
        let is : bare_where p y ≡ o = cc (sym (ap (option_map (bare_where p)) d) ∙ f) in
        let name : y.id ≡ o.id = get_id s o.id y d in
        let before : is_past s y ≡ true = past y (ap (get s) name ∙ d) (ap r name ∙ passes) in
        past_where p s o ∙ ap (is_past s) (sym is) ∙ ap (is_past s) (bare_left y (p y.id)) ∙ before

module _ (old all now walk rest : List Operation) (o : Operation) (k : IsLeaving old all now walk) (next : walk ≡ o ∷ rest) where
  later : (q : Id) → is_thinned_in rest q ≡ true → is_thinned_in walk q ≡ true
  later q h = ap (λ (ops : List Operation). is_thinned_in ops q) next ∙ by (same_id q o.id && is_thinned o)
    where
      by : (b : Bool) → (b || is_thinned_in rest q) ≡ true
      by true = refl
      by false = h

  -- an operation with its text is passed over
  pub passed : is_full o ≡ true → IsLeaving old all now rest
  passed full = record {
    so_far =
        where_agree (is_thinned_in rest) (is_thinned_in walk) now
        (λ q. sym (ap (λ (ops : List Operation). is_thinned_in ops q) next ∙ same q)) ∙ k.so_far;
    past = λ p g h. k.past p g (later p.id h);
  }
    where
      by : (b d r : Bool) → d ≡ true → ((b && not d) || r) ≡ r
      by true true r e = refl
      by false d r e = refl
      by true false r e = cc e

      same : (q : Id) → is_thinned_in (o ∷ rest) q ≡ is_thinned_in rest q
      same q = by (same_id q o.id) (is_full o) (is_thinned_in rest q) full

  -- one without it leaves the held one without
  pub left : is_full o ≡ false → IsLeaving old all (thin_where (same_id o.id) now) rest
  left thinned = record {
    so_far =
        where_then (same_id o.id) (is_thinned_in rest) now
        ∙ where_agree _ _ now (λ q. sym (ap (λ (ops : List Operation). is_thinned_in ops q) next ∙ same q)) ∙ k.so_far;
    past = past_still (same_id o.id) (is_thinned_in rest) now (λ p g h. k.past p g (later p.id h));
  }
    where
      by : (b d r : Bool) → d ≡ false → ((b && not d) || r) ≡ (b || r)
      by true false r e = refl
      by false d r e = refl
      by true true r e = cc e

      same : (q : Id) → is_thinned_in (o ∷ rest) q ≡ (same_id o.id q || is_thinned_in rest q)
      same q = by (same_id q o.id) (is_full o) (is_thinned_in rest q) thinned ∙ ap (λ b. b || is_thinned_in rest q) (same_id-sym q o.id)

  -- the held one of such an operation is past
  pub may_leave : is_full o ≡ false → ArePast (same_id o.id) now
  may_leave thinned = λ p g h. k.past p g (ap (λ (ops : List Operation). is_thinned_in ops p.id) next ∙ by p h)
    where
      first : (b r : Bool) → b ≡ true → (b || r) ≡ true
      first true r e = refl
      first false r e = cc e

      by : (p : Operation) → same_id o.id p.id ≡ true → is_thinned_in (o ∷ rest) p.id ≡ true
      by p h =
          first (same_id p.id o.id && is_thinned o) (is_thinned_in rest p.id) (and_from _ _ (same_id-sym p.id o.id ∙ h) (ap not thinned))

-- a bundle of full operations leaves out nothing
pub none_left : (old all : List Operation) → all_full all ≡ true → old ≡ thin_where (is_thinned_in all) old
none_left old all full = sym (where_never old) ∙ where_agree (λ q. false) (is_thinned_in all) old (λ q. sym (none_thinned all full q))
  where
    none_thinned : (ops : List Operation) → all_full ops ≡ true → (q : Id) → is_thinned_in ops q ≡ false
    none_thinned [] f q = refl
    none_thinned (o ∷ ops) f q =
        let p = and_parts (is_full o) (all_full ops) f in
        (λ i. (same_id q o.id && not (p.0 i)) || none_thinned ops p.1 q i) ∙ by (same_id q o.id)
      where
        by : (b : Bool) → ((b && false) || false) ≡ false
        by true = refl
        by false = refl

pub all_left : (old all now walk : List Operation) → IsLeaving old all now walk → walk ≡ [] → now ≡ thin_where (is_thinned_in all) old
all_left old all now walk k none =
    sym (where_never now) ∙ sym (ap (λ (ops : List Operation). thin_where (is_thinned_in ops) now) none) ∙ k.so_far
