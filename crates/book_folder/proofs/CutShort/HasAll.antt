-- Sets of which one has all that another one has, and parts of sets.
use Rattle.std.proofs.Common.{◌≡◌, ◌⊎◌, inl, inr, ℕ, Bool, true, false, List, filter, Option, Some, None, refl, sym, ap, subst, ◌∙◌}
use Rattle.std.specs.Option.{is_some}
use Rattle.op_core.specs.Ids.{Id}
use Rattle.op_core.specs.Ops.{Operation, is_full, texts_agree}
use Rattle.op_core.specs.Sets.{get, join, meet, met, rises}
use Rattle.op_core.proofs.Sets.Agreement.{Agree, agree_full, agree_itself, meet_full}
use Rattle.op_core.proofs.Sets.Clashes.{clash_comm}
use Rattle.op_core.proofs.Sets.Filters.{filter_within, rises-filter}
use Rattle.op_core.proofs.Sets.Groupings.{join_agrees}
use Rattle.op_core.proofs.Sets.NoClash.{no_clash}
use Rattle.op_core.proofs.Sets.Union.{AgreeAtAll, agree_from_no_clash, get-join, join_assoc, join_comm, join_itself, met_none, no_clash_itself, rises-join, same_gets}

-- a set has all that another one has: the two agree, and their union is the set
pub record HasAll (s a : List Operation) : Type 0 where
  pub agrees : AgreeAtAll s a
  pub held : join s a ≡ s

-- what agrees, the other way round
pub agree_back : (xs ys : List Operation) → rises xs ≡ true → rises ys ≡ true → AgreeAtAll xs ys → AgreeAtAll ys xs
agree_back xs ys hx hy h = agree_from_no_clash ys xs (clash_comm ys xs hy hx ∙ no_clash xs ys hy h)

-- a set has all that it has
pub all_of_itself : (s : List Operation) → rises s ≡ true → HasAll s s
all_of_itself s h = record { agrees = agree_from_no_clash s s (no_clash_itself s h); held = join_itself s h }

module _ (r b : List Operation) (hr : rises r ≡ true) (hb : rises b ≡ true) (agree : AgreeAtAll r b) where
  -- a union has all of the first
  pub all_of_left : HasAll (join r b) r
  all_of_left = record {
    agrees = join_agrees r b r hr hb (agree_from_no_clash r r (no_clash_itself r hr)) (agree_back r b hr hb agree);
    held =
        join_assoc r b r hr hb hr ∙ ap (join r) (join_comm b r hb hr (agree_back r b hr hb agree))
        ∙ sym (join_assoc r r b hr hr hb) ∙ ap (λ (ops : List Operation). join ops b) (join_itself r hr);
  }

  -- and all of the second
  pub all_of_right : HasAll (join r b) b
  all_of_right = record {
    agrees = join_agrees r b b hr hb agree (agree_from_no_clash b b (no_clash_itself b hb));
    held = join_assoc r b b hr hb hb ∙ ap (join r) (join_itself b hb);
  }

-- what a set has under an id, where it has all of another one
pub met_is : (s a : List Operation) → rises s ≡ true → rises a ≡ true → HasAll s a → (q : Id) → get s q ≡ met (get s q) (get a q)
met_is s a hs ha h q = ap (λ (ops : List Operation). get ops q) (sym h.held) ∙ get-join s a q hs ha

-- an operation agrees with one that agrees with another, which has its text where the first has one
agree_through : (x y z : Operation) → Agree x y → meet x y ≡ x → Agree y z → Agree x z
agree_through x y z h e g = by (is_full x) refl
  where
    no_text : (t u : Option (List ℕ)) → is_some t ≡ false → texts_agree t u ≡ true
    no_text None u n = refl
    no_text (Some t) u n = cc n

    by : (b : Bool) → is_full x ≡ b → Agree x z
    by true f =
        let full : is_full y ≡ true = (meet_full x.text y.text (ap is_full e ∙ f)).1 in
        subst (λ (o : Operation). Agree o z) (sym (agree_full x y h f full)) g
    by false f = record { bares = h.bares ∙ g.bares; texts = no_text x.text z.text f }

-- a set has all that one has of which it has all
pub all_through : (s b a : List Operation) → rises s ≡ true → rises b ≡ true → rises a ≡ true → HasAll s b → HasAll b a → HasAll s a
all_through s b a hs hb ha h g = record {
  agrees = λ q x z gx gz. by q x z gx gz (get b q) refl;
  held =
      ap (λ (ops : List Operation). join ops a) (sym h.held) ∙ join_assoc s b a hs hb ha ∙ ap (join s) g.held ∙ h.held;
}
  where
    by : (q : Id) (x z : Operation) → get s q ≡ Some x → get a q ≡ Some z → (r : Option Operation) → get b q ≡ r → Agree x z
    by q x z gx gz None e = cc (sym e ∙ met_is b a hb ha g q ∙ (λ i. met (e i) (gz i)))
    by q x z gx gz (Some y) e =
        let same : meet x y ≡ x = cc (sym gx ∙ met_is s b hs hb h q ∙ (λ i. met (gx i) (e i))) in
        agree_through x y z (h.agrees q x y gx e) same (g.agrees q y z e gz)

-- and some of what another one has
pub all_of_some : (p : Operation → Bool) (s a : List Operation) → rises s ≡ true → rises a ≡ true → HasAll s a → HasAll s (filter p a)
all_of_some p s a hs ha h = record {
  agrees = λ q x y gx gy. h.agrees q x y gx (filter_within p a ha q y gy);
  held = same_gets (join s (filter p a)) s (rises-join s (filter p a) hs) hs
      (λ q. get-join s (filter p a) q hs (rises-filter p a ha) ∙ by q (get (filter p a) q) refl);
}
  where
    by : (q : Id) (r : Option Operation) → get (filter p a) q ≡ r → met (get s q) r ≡ get s q
    by q None e = met_none (get s q)
    by q (Some y) e = ap (met (get s q)) (sym (filter_within p a ha q y e)) ∙ sym (met_is s a hs ha h q)

-- and the union of two of which it has all
pub all_of_both : (s a b : List Operation) → rises s ≡ true → rises a ≡ true → rises b ≡ true → HasAll s a → HasAll s b
    → HasAll s (join a b)
all_of_both s a b hs ha hb h g = record {
  agrees = agree_back (join a b) s (rises-join a b ha) hs
      (join_agrees a b s ha hb (agree_back s a hs ha h.agrees) (agree_back s b hs hb g.agrees));
  held = sym (join_assoc s a b hs ha hb) ∙ ap (λ (ops : List Operation). join ops b) h.held ∙ g.held;
}

-- ---- parts

-- a part of a set: each of its operations is there as it is
pub record IsPart (s x : List Operation) : Type 0 where
  pub rising : rises x ≡ true
  pub within : (q : Id) (o : Operation) → get x q ≡ Some o → get s q ≡ Some o

pub some_part : (p : Operation → Bool) (s : List Operation) → rises s ≡ true → IsPart s (filter p s)
some_part p s h = record { rising = rises-filter p s h; within = filter_within p s h }

-- an operation of a set meets itself as it is
held_meets : (s : List Operation) → rises s ≡ true → (q : Id) (o : Operation) → get s q ≡ Some o → met (Some o) (Some o) ≡ Some o
held_meets s hs q o g = (λ i. met (sym g i) (sym g i)) ∙ sym (met_is s s hs hs (all_of_itself s hs) q) ∙ g

-- a set has all of its part
pub all_of_part : (s x : List Operation) → rises s ≡ true → IsPart s x → HasAll s x
all_of_part s x hs h = record {
  agrees = λ q o p go gp. let same : o ≡ p = cc (sym go ∙ h.within q p gp) in subst (Agree o) same (agree_itself o);
  held = same_gets (join s x) s (rises-join s x hs) hs (λ q. get-join s x q hs h.rising ∙ by q (get x q) refl);
}
  where
    by : (q : Id) (r : Option Operation) → get x q ≡ r → met (get s q) r ≡ get s q
    by q None e = met_none (get s q)
    by q (Some o) e =
        ap (λ (m : Option Operation). met m (Some o)) (h.within q o e) ∙ held_meets s hs q o (h.within q o e) ∙ sym (h.within q o e)

-- two parts together are one
pub both_parts : (s x y : List Operation) → rises s ≡ true → IsPart s x → IsPart s y → IsPart s (join x y)
both_parts s x y hs h g = record {
  rising = rises-join x y h.rising;
  within = λ q o go. by q o (get x q) refl (get y q) refl (sym (get-join x y q h.rising g.rising) ∙ go);
}
  where
    by : (q : Id) (o : Operation) (m : Option Operation) → get x q ≡ m → (k : Option Operation) → get y q ≡ k → met m k ≡ Some o
        → get s q ≡ Some o
    by q o None e None d w = cc w
    by q o None e (Some k) d w = g.within q o (d ∙ w)
    by q o (Some m) e None d w = h.within q o (e ∙ w)
    by q o (Some m) e (Some k) d w =
        let same : m ≡ k = cc (sym (h.within q m e) ∙ g.within q k d) in
        h.within q m e ∙ sym (held_meets s hs q m (h.within q m e)) ∙ ap (λ (p : Operation). met (Some m) (Some p)) same ∙ w

-- a part of a set agrees with what the set has
pub part_of : (s r x : List Operation) → HasAll s r → IsPart s x → AgreeAtAll x r
part_of s r x all part q o y go gy = all.agrees q o y (part.within q o go) gy

-- and that agrees with it
pub part_agrees : (s r x : List Operation) → rises r ≡ true → HasAll s r → IsPart s x → AgreeAtAll r x
part_agrees s r x hr all part = agree_back x r part.rising hr (part_of s r x all part)

-- ---- a set that is received where a part of what is made of it is there already

module _ (s r b x : List Operation) (hs : rises s ≡ true) (hr : rises r ≡ true) (hb : rises b ≡ true) (agree : AgreeAtAll r b)
    (all : HasAll s (join r b)) (part : IsPart s x) where
  part_meets : AgreeAtAll x b
  part_meets = part_of s b x (all_through s (join r b) b hs (rises-join r b hr) hb all (all_of_right r b hr hb agree)) part

  -- they agree
  pub over_agrees : AgreeAtAll (join r x) b
  over_agrees = join_agrees r x b hr part.rising agree part_meets

  -- and what is made is the same with that part
  pub over_is : join (join r x) b ≡ join (join r b) x
  over_is =
      join_assoc r x b hr part.rising hb ∙ ap (join r) (join_comm x b part.rising hb part_meets)
      ∙ sym (join_assoc r b x hr hb part.rising)

-- a set and a part of another one are that one, which has all of the set, where each of its operations is in one of the two
pub covered : (s r x : List Operation) → rises s ≡ true → rises r ≡ true → HasAll s r → IsPart s x
    → ((q : Id) (o : Operation) → get s q ≡ Some o → (get r q ≡ Some o) ⊎ (get x q ≡ Some o)) → join r x ≡ s
covered s r x hs hr all part each =
    same_gets (join r x) s (rises-join r x hr) hs (λ q. by q (get s q) refl)
  where
    at : (q : Id) → get (join r x) q ≡ met (get r q) (get x q)
    at q = get-join r x q hr part.rising

    left : (q : Id) (o : Operation) → get s q ≡ Some o → get r q ≡ Some o → (k : Option Operation) → get x q ≡ k
        → met (get r q) k ≡ get s q
    left q o e g None f = met_none (get r q) ∙ g ∙ sym e
    left q o e g (Some p) f =
        let same : p ≡ o = cc (sym e ∙ part.within q p f) in
        (λ i. met (g i) (Some (same i))) ∙ held_meets s hs q o e ∙ sym e

    right : (q : Id) (o : Operation) → get s q ≡ Some o → get x q ≡ Some o → get (join r x) q ≡ get s q
    right q o e g =
        ap (λ (ops : List Operation). get ops q) (join_comm r x hr part.rising (part_agrees s r x hr all part))
        ∙ get-join x r q part.rising hr ∙ (λ i. met ((g ∙ sym e) i) (get r q)) ∙ sym (met_is s r hs hr all q)

    nothing : (q : Id) → get s q ≡ None → (m : Option Operation) → get r q ≡ m → (k : Option Operation) → get x q ≡ k
        → met m k ≡ get s q
    nothing q e None d None f = sym e
    nothing q e None d (Some o) f = cc (sym e ∙ part.within q o f)
    nothing q e (Some y) d k f = cc (sym e ∙ met_is s r hs hr all q ∙ (λ i. met (e i) (d i)))

    by : (q : Id) (z : Option Operation) → get s q ≡ z → get (join r x) q ≡ get s q
    by q None e = at q ∙ nothing q e (get r q) refl (get x q) refl
    by q (Some o) e = elim (each q o e) [
      | inl g ↦ at q ∙ left q o e g (get x q) refl
      | inr g ↦ right q o e g
    ]
