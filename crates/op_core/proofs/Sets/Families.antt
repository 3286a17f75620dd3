-- Sets of one family: no id has two operations.
use Rattle.std.proofs.Common.{◌≡◌, Bool, true, false, cond, ◌||◌, List, [], ◌∷◌, Option, Some, None, option_map, Ok, map, refl, sym, ap, subst, ◌∙◌}
use Rattle.std.specs.Option.{is_some}
use Rattle.std.proofs.lemmas.Bool.{true≢false, false≢true}
use Rattle.op_core.specs.Ids.{Id, same_id}
use Rattle.op_core.specs.Ops.{Operation, bare, with_text}
use Rattle.op_core.specs.Sets.{get, meet, met, join, clash}
use Rattle.op_core.specs.Lists.{ids_of}
use Rattle.op_core.specs.NextIds.{is_among}
use Rattle.op_core.specs.Thinned.{is_past, thinned_in, thin, skeleton, StandsFor, StandsIn, IsOf}
use Rattle.op_core.specs.Laws.{Joining, joined_or_clash, with_both, union_by}
use Rattle.op_core.specs.ThinLaws.{AreOf, one_holds, Alike}
use Rattle.op_core.specs.Laws.Joining.{Part, Joined}
use Rattle.op_core.proofs.Sets.Union.{same_gets, rises-join, get-join, text_itself, AgreeAtAll}
use Rattle.op_core.proofs.Sets.Agreement.{agree_itself}
use Rattle.op_core.proofs.Sets.NoClash.{no_clash}
use Rattle.op_core.proofs.ThinnedSets.Bare.{rises_bare, rises_same}
use Rattle.op_core.proofs.Sets.Legal.{join_legal, thin_legal, skeleton_thin, bare_thinned}
use Rattle.op_core.proofs.ThinnedSets.StandIns.{stood, pairs_from, stands_meet, stands_agree}
use Rattle.op_core.proofs.Sets.Groupings.{get_bare, skeleton_shows, skeleton_picks, skeleton_exports}

some : (x y : Operation) → Some x ≡ Some y → x ≡ y
some x y e = cc

stands_met : (x y w : Operation) → StandsIn x w → StandsIn y w → StandsIn (meet x y) w
stands_met x y w h g = record {
  bares = h.bares;
  same = λ full. (stands_meet x w y w h g).same full ∙ ap (with_text w) (text_itself w.text);
}

-- an id is among those of a set where something is held under it
pub among_held : (ops : List Operation) (q : Id) → is_among (ids_of ops) q ≡ is_some (get ops q)
among_held [] q = refl
among_held (o ∷ ops) q = by (same_id q o.id) (same_id q o.id) refl (among_held ops q)
  where
    by : (b d : Bool) → b ≡ d → is_among (ids_of ops) q ≡ is_some (get ops q)
        → (d || is_among (ids_of ops) q) ≡ is_some (cond b (Some o) (get ops q))
    by true true e rest = refl
    by false false e rest = rest
    by true false e rest = cc
    by false true e rest = cc

-- what a meeting of two holds is held by one of them
pub held_either : (m k : Option Operation) → is_some (met m k) ≡ (is_some m || is_some k)
held_either None k = refl
held_either (Some x) None = refl
held_either (Some x) (Some y) = refl

module _ (family : Id → Operation) where
  pub family_agrees : (s t : List Operation) → IsOf family s → IsOf family t → AgreeAtAll s t
  family_agrees s t h g q x y gx gy = stands_agree x y (family q) (family q) (h.each q x gx) (g.each q y gy) (agree_itself (family q))

  -- sets of one family do not clash, and their union is of the family
  pub family_joins : (s t : List Operation) → IsOf family s → IsOf family t → (clash s t ≡ None) × IsOf family (join s t)
  family_joins s t h g =
      let same = family_agrees s t h g in (
        no_clash s t g.rising same,
        record {
          rising = rises-join s t h.rising;
          legal = join_legal s t h.rising g.rising h.legal g.legal same;
          each = λ q o e. by q o (get s q) refl (get t q) refl (sym (get-join s t q h.rising g.rising) ∙ e);
        },
      )
    where
      by : (q : Id) (o : Operation) (m : Option Operation) → get s q ≡ m → (k : Option Operation) → get t q ≡ k → met m k ≡ Some o
          → StandsIn o (family q)
      by q o None d k e f = g.each q o (e ∙ f)
      by q o (Some x) d None e f = h.each q o (d ∙ f)
      by q o (Some x) d (Some y) e f =
          let is : meet x y ≡ o = cc f in
          subst (λ (z : Operation). StandsIn z (family q)) is (stands_met x y (family q) (h.each q x d) (g.each q y e))

  -- a set of a family is still of it when it is thinned
  pub family_thins : (s : List Operation) → IsOf family s → IsOf family (thin s)
  family_thins s h = record {
    rising = rises_same (thin s) s (skeleton_thin s) ∙ h.rising;
    legal = thin_legal s h.legal;
    each = λ q o e. by q o (get s q) refl (sym (get_map s q) ∙ e);
  }
    where
      one : (q : Id) (x : Operation) → StandsIn x (family q) → StandsIn (thinned_in s x) (family q)
      one q x h = elim (is_past s x) as (λ b. StandsIn (cond b (bare x) x) (family q)) [
        | true ↦ record { bares = h.bares; same = λ full. absurd (false≢true full) }
        | false ↦ h
      ]

      head : (x : Operation) (ops : List Operation) (q : Id) (b d : Bool) → d ≡ b
          → get (map (thinned_in s) ops) q ≡ option_map (thinned_in s) (get ops q)
          → cond d (Some (thinned_in s x)) (get (map (thinned_in s) ops) q) ≡ option_map (thinned_in s) (cond b (Some x) (get ops q))
      head x ops q true true e rest = refl
      head x ops q false false e rest = rest
      head x ops q true false e rest = cc
      head x ops q false true e rest = cc

      get_map : (ops : List Operation) (q : Id) → get (map (thinned_in s) ops) q ≡ option_map (thinned_in s) (get ops q)
      get_map [] q = refl
      get_map (x ∷ ops) q =
          head x ops q (same_id q x.id) (same_id q (thinned_in s x).id) (ap (λ (o : Operation). same_id q o.id) (bare_thinned s x))
          (get_map ops q)

      by : (q : Id) (o : Operation) (m : Option Operation) → get s q ≡ m → option_map (thinned_in s) (get s q) ≡ Some o
          → StandsIn o (family q)
      by q o None d f = cc (sym (ap (option_map (thinned_in s)) d) ∙ f)
      by q o (Some x) d f =
          let is : thinned_in s x ≡ o = some (thinned_in s x) o (sym (ap (option_map (thinned_in s)) d) ∙ f) in
          subst (λ (z : Operation). StandsIn z (family q)) is (one q x (h.each q x d))

  -- ---- joined in some way

  record Made (way : Joining) : Type 0 where
    union : List Operation
    is : union_by way ≡ Ok union
    of : IsOf family union
    ids : (q : Id) → is_among (ids_of union) q ≡ one_holds way q

  made : (way : Joining) → AreOf family way → Made way
  made (Part set) h = record { union = set; is = refl; of = h; ids = λ q. refl }
  made (Joined left right) h = both (made left h.0) (made right h.1)
    where
      both : Made left → Made right → Made (Joined left right)
      both m k =
          let j = family_joins m.union k.union m.of k.of in
          record {
            union = join m.union k.union;
            is = (λ i. with_both (m.is i) (k.is i) (λ a b. joined_or_clash a b (clash a b))) ∙ ap (joined_or_clash m.union k.union) j.0;
            of = j.1;
            ids = λ q.
                among_held (join m.union k.union) q
                ∙ ap is_some (get-join m.union k.union q m.of.rising k.of.rising)
                ∙ held_either (get m.union q) (get k.union q)
                ∙ (λ i. (sym (among_held m.union q) ∙ m.ids q) i || (sym (among_held k.union q) ∙ k.ids q) i);
          }

  same_ids_same_skeleton : (a b : List Operation) → IsOf family a → IsOf family b
      → ((q : Id) → is_among (ids_of a) q ≡ is_among (ids_of b) q) → skeleton a ≡ skeleton b
  same_ids_same_skeleton a b h g same =
      same_gets (skeleton a) (skeleton b) (sym (rises_bare a) ∙ h.rising) (sym (rises_bare b) ∙ g.rising) (λ q.
      get_bare a q ∙ by q (get a q) refl (get b q) refl (sym (among_held a q) ∙ same q ∙ among_held b q) ∙ sym (get_bare b q))
    where
      by : (q : Id) (m : Option Operation) → get a q ≡ m → (k : Option Operation) → get b q ≡ k → is_some (get a q) ≡ is_some (get b q)
          → option_map bare (get a q) ≡ option_map bare (get b q)
      by q None d None e f = ap (option_map bare) (d ∙ sym e)
      by q (Some x) d (Some y) e f =
          ap (option_map bare) d ∙ ap Some ((h.each q x d).bares ∙ sym (g.each q y e).bares) ∙ sym (ap (option_map bare) e)
      by q None d (Some y) e f = absurd (false≢true (sym (ap is_some d) ∙ f ∙ ap is_some e))
      by q (Some x) d None e f = absurd (true≢false (sym (ap is_some d) ∙ f ∙ ap is_some e))

  -- joinings of one family that bring the same ids make sets that are alike
  pub unions_alike : (one other : Joining) → AreOf family one → AreOf family other → ((id : Id) → one_holds one id ≡ one_holds other id)
      → Alike (union_by one) (union_by other)
  unions_alike one other h g same = alike (made one h) (made other g)
    where
      alike : Made one → Made other → Alike (union_by one) (union_by other)
      alike m k =
          let e = same_ids_same_skeleton m.union k.union m.of k.of (λ q. m.ids q ∙ same q ∙ sym (k.ids q)) in
          let n = (family_joins m.union k.union m.of k.of).0 in
          record {
            a = m.union;
            b = k.union;
            one_is = m.is;
            other_is = k.is;
            skeletons = e;
            shows = λ seg. skeleton_shows m.union k.union seg m.of.rising k.of.rising m.of.legal k.of.legal n e;
            exports = λ book. skeleton_exports m.union k.union book m.of.rising k.of.rising m.of.legal k.of.legal n e;
            picks = λ seg. skeleton_picks m.union k.union seg m.of.rising k.of.rising m.of.legal k.of.legal n e;
          }

  -- a set that stands for a full one of the family is of it
  pub stands_of : (s u : List Operation) → StandsFor s u → ((q : Id) (w : Operation) → get u q ≡ Some w → family q ≡ w) → IsOf family s
  stands_of s u h same = record {
    rising = h.rising;
    legal = h.legal;
    each = λ q o g. let r = stood s u q o (pairs_from s u h) g in subst (StandsIn o) (sym (same q r.for r.held)) r.stands;
  }
