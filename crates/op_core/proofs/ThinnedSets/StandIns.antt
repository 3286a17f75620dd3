-- Sets that stand for full ones, operation by operation.
use Rattle.std.proofs.Common.{◌≡◌, ℕ, Bool, true, false, cond, List, [], ◌∷◌, map, filter, refl, sym, ap, subst, ◌∙◌, Option, Some, None}
use Rattle.std.specs.declared.cmp.Ordering.TheVariants.{Less, Equal, Greater}
use Rattle.std.specs.List.{AllByRecursion}
use Rattle.std.specs.Option.{is_some}
use Rattle.std.specs.FinMap.Entries.{by_order}
use Rattle.std.proofs.lemmas.Bool.{and_parts, false≢true}
use Rattle.op_core.specs.Ids.{Id, id_cmp, same_id}
use Rattle.op_core.specs.Ops.{Operation, is_full, bare, texts_agree}
use Rattle.op_core.specs.Sets.{rises, get, meet, put, join, clash}
use Rattle.op_core.specs.Shown.{is_shown, shown}
use Rattle.op_core.specs.Thinned.{is_past, is_legal, all_full, thinned_in, thin, skeleton, StandsFor, StandsIn, is_sent, delta, of_ids}
use Rattle.op_core.proofs.Sets.Union.{held_itself, rises-join, AgreeAtAll, agree_from_no_clash}
use Rattle.op_core.proofs.Sets.Gets.{all_held}
use Rattle.op_core.proofs.Sets.Agreement.{Agree, meet_full}
use Rattle.op_core.proofs.Sets.NoClash.{no_clash}
use Rattle.op_core.proofs.ThinnedSets.Bare.{is_shown_same, rises_same}
use Rattle.op_core.proofs.Sets.Filters.{rises-filter, all-filter}
use Rattle.op_core.proofs.Sets.Legal.{join_legal, full-join, full_legal, thin_legal, shown_full, delta_legal}
use Rattle.usfm_ref.specs.declared.segment.Segment.{Segment}

abbrev pub ArePairs : List Operation → List Operation → Type 0
ArePairs [] [] = Unit {0}
ArePairs [] (u ∷ us) = ⊥
ArePairs (s ∷ ss) [] = ⊥
ArePairs (s ∷ ss) (u ∷ us) = StandsIn s u × ArePairs ss us

-- ---- the two ways to say it

pub pairs_of : (whole ss us : List Operation) → skeleton ss ≡ skeleton us
    → AllByRecursion (λ s. is_full s ≡ true → get whole s.id ≡ Some s) ss → AllByRecursion (λ u. get whole u.id ≡ Some u) us
    → ArePairs ss us
pairs_of whole [] [] e f g = tt
pairs_of whole [] (u ∷ us) e f g = cc
pairs_of whole (s ∷ ss) [] e f g = cc
pairs_of whole (s ∷ ss) (u ∷ us) e f g =
    let same : bare s ≡ bare u = cc e in (
      record {
        bares = same;
        same = λ full. some s u
            (sym (f.0 full) ∙ ap (λ (o : Operation). get whole o.id) same ∙ g.0);
      },
      pairs_of whole ss us (cc e) f.1 g.1,
    )
  where
    some : (x y : Operation) → Some x ≡ Some y → x ≡ y
    some x y e = cc

pub pairs_from : (s u : List Operation) → StandsFor s u → ArePairs s u
pairs_from s u h =
    pairs_of u s u h.skeletons (all_held (λ o. is_full o ≡ true → get u o.id ≡ Some o) s h.rising (λ o g full. h.within o.id o g full))
    (held_itself u h.whole_rising)

pub pairs_skeletons : (s u : List Operation) → ArePairs s u → skeleton s ≡ skeleton u
pairs_skeletons [] [] h = refl
pairs_skeletons [] (u ∷ us) h = absurd h
pairs_skeletons (s ∷ ss) [] h = absurd h
pairs_skeletons (s ∷ ss) (u ∷ us) h = λ i. h.0.bares i ∷ pairs_skeletons ss us h.1 i

-- what is at an id in one stands for what is there in the other
pub record Stood (u : List Operation) (q : Id) (o : Operation) : Type 0 where
  pub for : Operation
  pub held : get u q ≡ Some for
  pub stands : StandsIn o for

pub stood : (s u : List Operation) (q : Id) (o : Operation) → ArePairs s u → get s q ≡ Some o → Stood u q o
stood [] [] q o h g = cc g
stood [] (u ∷ us) q o h g = absurd h
stood (s ∷ ss) [] q o h g = absurd h
stood (s ∷ ss) (u ∷ us) q o h g =
    by (same_id q s.id) (same_id q u.id) (ap (λ (p : Operation). same_id q p.id) h.0.bares) g (stood ss us q o h.1) refl
  where
    by : (b d : Bool) → b ≡ d → cond b (Some s) (get ss q) ≡ Some o → (get ss q ≡ Some o → Stood us q o)
        → (get (u ∷ us) q ≡ cond d (Some u) (get us q)) → Stood (u ∷ us) q o
    by true true e g rest is = record { for = u; held = is; stands = subst (λ (x : Operation). StandsIn x u) (some s o g) h.0 }
      where
        some : (x y : Operation) → Some x ≡ Some y → x ≡ y
        some x y e = cc
    by false false e g rest is = let r = rest g in record { for = r.for; held = is ∙ r.held; stands = r.stands }
    by true false e g rest is = cc
    by false true e g rest is = cc

pub pairs_stand : (s u : List Operation) → rises s ≡ true → rises u ≡ true → is_legal s ≡ true → all_full u ≡ true → ArePairs s u
    → StandsFor s u
pairs_stand s u hs hu l f h = record {
  rising = hs;
  whole_rising = hu;
  legal = l;
  whole_full = f;
  skeletons = pairs_skeletons s u h;
  within = λ q o g full. let r = stood s u q o h g in r.held ∙ ap Some (sym (r.stands.same full));
}

-- ---- the union

pub stands_meet : (s u o p : Operation) → StandsIn s u → StandsIn o p → StandsIn (meet s o) (meet u p)
stands_meet s u o p h g = record {
  bares = h.bares;
  same = λ full. let f = meet_full s.text o.text full in λ i. meet (h.same f.0 i) (g.same f.1 i);
}

pub pairs_put : (o p : Operation) (ss us : List Operation) → StandsIn o p → ArePairs ss us → ArePairs (put o ss) (put p us)
pairs_put o p [] [] g h = (g, tt)
pairs_put o p [] (u ∷ us) g h = absurd h
pairs_put o p (s ∷ ss) [] g h = absurd h
pairs_put o p (s ∷ ss) (u ∷ us) g h =
    let same : id_cmp o.id s.id ≡ id_cmp p.id u.id = λ i. id_cmp (g.bares i).id (h.0.bares i).id in
    subst (λ r. ArePairs (put o (s ∷ ss)) (by_order r (p ∷ u ∷ us) (meet u p ∷ us) (u ∷ put p us))) same
    (elim (id_cmp o.id s.id) as
    (λ r. ArePairs (by_order r (o ∷ s ∷ ss) (meet s o ∷ ss) (s ∷ put o ss)) (by_order r (p ∷ u ∷ us) (meet u p ∷ us) (u ∷ put p us))) [
      | Less ↦ (g, h)
      | Equal ↦ (stands_meet s u o p h.0 g, h.1)
      | Greater ↦ (h.0, pairs_put o p ss us g h.1)
    ])

pub pairs_join : (s u t v : List Operation) → ArePairs s u → ArePairs t v → ArePairs (join s t) (join u v)
pairs_join s u [] [] h g = h
pairs_join s u [] (v ∷ vs) h g = absurd g
pairs_join s u (t ∷ ts) [] h g = absurd g
pairs_join s u (t ∷ ts) (v ∷ vs) h g = pairs_put t v (join s ts) (join u vs) g.0 (pairs_join s u ts vs h g.1)

-- what stands for operations that agree agrees
pub stands_agree : (x y u v : Operation) → StandsIn x u → StandsIn y v → Agree u v → Agree x y
stands_agree x y u v h g a = record { bares = h.bares ∙ a.bares ∙ sym g.bares; texts = by x.text refl y.text refl }
  where
    by : (m : Option (List ℕ)) → x.text ≡ m → (k : Option (List ℕ)) → y.text ≡ k → texts_agree m k ≡ true
    by None e k f = refl
    by (Some m) e None f = refl
    by (Some m) e (Some k) f =
        let hx = h.same (ap is_some e) in
        let hy = g.same (ap is_some f) in
        (λ i. texts_agree (sym e i) (sym f i)) ∙ (λ i. texts_agree (hx i).text (hy i).text) ∙ a.texts

pub pairs_agree : (s u t v : List Operation) → ArePairs s u → ArePairs t v → AgreeAtAll u v → AgreeAtAll s t
pairs_agree s u t v h g a q x y gx gy =
    let m = stood s u q x h gx in
    let k = stood t v q y g gy in
    stands_agree x y m.for k.for m.stands k.stands (a q m.for k.for m.held k.held)

-- unions stand for unions
pub join_stands : (s u t v : List Operation) → StandsFor s u → StandsFor t v → clash u v ≡ None
    → (clash s t ≡ None) × StandsFor (join s t) (join u v)
join_stands s u t v h g n =
    let ps = pairs_from s u h in
    let pt = pairs_from t v g in
    let same = pairs_agree s u t v ps pt (agree_from_no_clash u v n) in (
      no_clash s t g.rising same,
      pairs_stand (join s t) (join u v) (rises-join s t h.rising) (rises-join u v h.whole_rising)
          (join_legal s t h.rising g.rising h.legal g.legal same) (full-join u v h.whole_full g.whole_full) (pairs_join s u t v ps pt),
    )

-- ---- thinning

full_stands_in : (u : List Operation) → ArePairs u u
full_stands_in [] = tt
full_stands_in (o ∷ u) = (record { bares = refl; same = λ full. refl }, full_stands_in u)

-- a full set stands for itself
pub full_stands : (u : List Operation) → rises u ≡ true → all_full u ≡ true → StandsFor u u
full_stands u h f = pairs_stand u u h h (full_legal u u f) f (full_stands_in u)

pairs_thinned : (all s u : List Operation) → ArePairs s u → ArePairs (map (thinned_in all) s) u
pairs_thinned all [] [] h = tt
pairs_thinned all [] (u ∷ us) h = absurd h
pairs_thinned all (s ∷ ss) [] h = absurd h
pairs_thinned all (s ∷ ss) (u ∷ us) h = (one, pairs_thinned all ss us h.1)
  where
    one : StandsIn (thinned_in all s) u
    one = elim (is_past all s) as (λ b. StandsIn (cond b (bare s) s) u) [
      | true ↦ record { bares = h.0.bares; same = λ full. absurd (false≢true full) }
      | false ↦ h.0
    ]

rises_pairs : (s u : List Operation) → skeleton s ≡ skeleton u → rises u ≡ true → rises s ≡ true
rises_pairs s u e h = rises_same s u e ∙ h

-- what stands for a set does so still when it is thinned
pub thin_stands : (s u : List Operation) → StandsFor s u → StandsFor (thin s) u
thin_stands s u h =
    let p = pairs_thinned s s u (pairs_from s u h) in
    pairs_stand (thin s) u (rises_pairs (thin s) u (pairs_skeletons (thin s) u p) h.whole_rising) h.whole_rising
    (thin_legal s h.legal) h.whole_full p

-- ---- subsets

pub pairs_filter : (p q : Operation → Bool) → ((s u : Operation) → StandsIn s u → p s ≡ q u) → (ss us : List Operation) → ArePairs ss us
    → ArePairs (filter p ss) (filter q us)
pairs_filter p q same [] [] h = tt
pairs_filter p q same [] (u ∷ us) h = absurd h
pairs_filter p q same (s ∷ ss) [] h = absurd h
pairs_filter p q same (s ∷ ss) (u ∷ us) h =
    let rest = pairs_filter p q same ss us h.1 in
    subst (λ b. ArePairs (filter p (s ∷ ss)) (cond b (u ∷ filter q us) (filter q us))) (same s u h.0)
    (elim (p s) as (λ b. ArePairs (cond b (s ∷ filter p ss) (filter p ss))
    (cond b (u ∷ filter q us) (filter q us))) [ true ↦ (h.0, rest) | false ↦ rest ])

-- a legal subset, chosen by anything but the texts
pub filter_stands : (s u : List Operation) (kept : Operation → Bool) → StandsFor s u → is_legal (filter (λ o. kept (bare o)) s) ≡ true
    → StandsFor (filter (λ o. kept (bare o)) s) (filter (λ o. kept (bare o)) u)
filter_stands s u kept h l =
    pairs_stand _ _ (rises-filter (λ o. kept (bare o)) s h.rising) (rises-filter (λ o. kept (bare o)) u h.whole_rising) l
    (all-filter is_full (λ o. kept (bare o)) u h.whole_full)
    (pairs_filter (λ o. kept (bare o)) (λ o. kept (bare o)) (λ x y g. ap kept g.bares) s u (pairs_from s u h))

-- some ids of a set stand for the same ids of what it stands for, where they are legal
pub subset_stands : (s u : List Operation) (kept : Id → Bool) → StandsFor s u → is_legal (of_ids kept s) ≡ true
    → StandsFor (of_ids kept s) (of_ids kept u)
subset_stands s u kept h l = filter_stands s u (λ o. kept o.id) h l

pub delta_stands : (s u : List Operation) (knows : Id → Bool) → StandsFor s u → StandsFor (delta s knows) (filter (is_sent s knows) u)
delta_stands s u knows h = filter_stands s u (is_sent s knows) h (delta_legal s knows h.rising h.legal)

-- ---- what is shown

pairs_equal : (s u : List Operation) → ArePairs s u → all_full s ≡ true → s ≡ u
pairs_equal [] [] h f = refl
pairs_equal [] (u ∷ us) h f = absurd h
pairs_equal (s ∷ ss) [] h f = absurd h
pairs_equal (s ∷ ss) (u ∷ us) h f = let q = and_parts (is_full s) (all_full ss) f in λ i. h.0.same q.0 i ∷ pairs_equal ss us h.1 q.1 i

-- a set shows what the one shows that it stands for
pub shows_same : (s u : List Operation) (seg : Segment) → StandsFor s u → shown s seg ≡ shown u seg
shows_same s u seg h = pairs_equal (shown s seg) (shown u seg)
    (pairs_filter (is_shown s seg) (is_shown u seg) (λ x y g. is_shown_same s u h.skeletons seg x ∙ ap (is_shown u seg) g.bares) s u
    (pairs_from s u h))
    (shown_full s seg h.legal)
