-- Sets of operations, by what they hold at each id.
use Rattle.std.proofs.Common.{◌≡◌, ◌⊎◌, inl, inr, ℕ, Bool, true, false, not, cond, ◌||◌, List}
use Rattle.std.proofs.Common.{[], ◌∷◌, filter, refl, sym, ap, subst, ◌∙◌, Option, Some, None}
use Rattle.std.specs.Option.{is_some, option_or, option_map}
use Rattle.std.proofs.lemmas.Bool.{false≢true}
use Rattle.op_core.specs.Ids.{Id, same_id}
use Rattle.op_core.specs.Ops.{Operation, is_full, with_text, bare}
use Rattle.op_core.specs.Sets.{rises, get, join, meet, meet_text, met, clash}
use Rattle.op_core.specs.Lists.{is_held, ids_of}
use Rattle.op_core.specs.NextIds.{is_among}
use Rattle.op_core.specs.Thinned.{skeleton, of_ids, delta, is_sent}
use Rattle.op_core.proofs.Sets.Agreement.{Agree, agree_itself}
use Rattle.op_core.proofs.ThinnedSets.Bare.{rises_bare}
use Rattle.op_core.proofs.Sets.Clashes.{get_id}
use Rattle.op_core.proofs.Sets.Filters.{rises-filter, filter_within, filter_passes, filter_kept}
use Rattle.op_core.proofs.Sets.Groupings.{get_bare}
use Rattle.op_core.proofs.Sets.NoClash.{no_clash}
use Rattle.op_core.proofs.Sets.Union.{same_gets, get-join, rises-join}
use Rattle.op_core.proofs.Indexed.Awaited.{held-get}

-- ---- the union with a set that has every text

-- what meets a full one stays
met_full : (x y : Operation) → is_full y ≡ true → met (Some x) (Some y) ≡ Some x
met_full x y h = by y.text refl h
  where
    held : (r : Option (List ℕ)) (t : List ℕ) → Some (with_text x (meet_text r (Some t))) ≡ Some (with_text x r)
    held None t = refl
    held (Some r) t = refl

    by : (t : Option (List ℕ)) → y.text ≡ t → is_some t ≡ true → Some (meet x y) ≡ Some x
    by None e h = absurd (false≢true h)
    by (Some t) e h = ap (λ t. Some (with_text x (meet_text x.text t))) e ∙ held x.text t

-- a set that has every text
abbrev pub HasTexts : List Operation → Type 0
HasTexts ops = (q : Id) (o : Operation) → get ops q ≡ Some o → is_full o ≡ true

met_left : (x : Operation) (r : Option Operation) → ((y : Operation) → r ≡ Some y → is_full y ≡ true) → met (Some x) r ≡ Some x
met_left x None h = refl
met_left x (Some y) h = met_full x y (h y refl)

module _ (xs ys : List Operation) (hx : rises xs ≡ true) (hy : rises ys ≡ true) where
  pub join_left : HasTexts ys → (q : Id) (x : Operation) → get xs q ≡ Some x → get (join xs ys) q ≡ Some x
  join_left f q x g = get-join xs ys q hx hy ∙ ap (λ r. met r (get ys q)) g ∙ met_left x (get ys q) (f q)

  pub join_right : (q : Id) → get xs q ≡ None → get (join xs ys) q ≡ get ys q
  join_right q g = get-join xs ys q hx hy ∙ ap (λ r. met r (get ys q)) g

  pub join_cases : HasTexts ys → (q : Id) (x : Operation) → get (join xs ys) q ≡ Some x → (get xs q ≡ Some x) ⊎ (get ys q ≡ Some x)
  join_cases f q x g = by (get xs q) (sym (get-join xs ys q hx hy) ∙ g)
    where
      by : (r : Option Operation) → met r (get ys q) ≡ Some x → (r ≡ Some x) ⊎ (get ys q ≡ Some x)
      by (Some y) e = inl (sym (met_left y (get ys q) (f q)) ∙ e)
      by None e = inr e

-- sets that hold one operation under each id do not clash
pub equal_no_clash : (xs ys : List Operation) → rises ys ≡ true
    → ((q : Id) (x y : Operation) → get xs q ≡ Some x → get ys q ≡ Some y → x ≡ y) → clash xs ys ≡ None
equal_no_clash xs ys h same = no_clash xs ys h (λ q x y gx gy. subst (Agree x) (same q x y gx gy) (agree_itself x))

-- ---- whether an id is held

-- a held id has an operation
pub held_at : (ops : List Operation) (q : Id) → is_held ops q ≡ true → (o : Operation) × (get ops q ≡ Some o)
held_at ops q h = by (get ops q) refl
  where
    by : (r : Option Operation) → get ops q ≡ r → (o : Operation) × (get ops q ≡ Some o)
    by (Some o) e = (o, e)
    by None e = absurd (false≢true (sym (held-get ops q ∙ ap is_some e) ∙ h))

-- an id with an operation is held
pub at_held : (ops : List Operation) (q : Id) (o : Operation) → get ops q ≡ Some o → is_held ops q ≡ true
at_held ops q o g = held-get ops q ∙ ap is_some g

-- an id without an operation is not held
pub not_held : (ops : List Operation) (q : Id) → get ops q ≡ None → is_held ops q ≡ false
not_held ops q g = held-get ops q ∙ ap is_some g

-- an id that is among those of some operations is held by one of them
pub among_is_held : (ops : List Operation) (q : Id) → is_among (ids_of ops) q ≡ is_held ops q
among_is_held [] q = refl
among_is_held (o ∷ ops) q = ap (λ b. same_id q o.id || b) (among_is_held ops q)

-- what passes is among all
pub filter_held : (p : Operation → Bool) (ops : List Operation) (q : Id) → is_held (filter p ops) q ≡ true → is_held ops q ≡ true
filter_held p [] q h = h
filter_held p (o ∷ ops) q h = by (filter_held p ops q) (p o) (same_id q o.id) refl h
  where
    by : (is_held (filter p ops) q ≡ true → is_held ops q ≡ true) → (b d : Bool) → same_id q o.id ≡ d
        → is_held (cond b (o ∷ filter p ops) (filter p ops)) q ≡ true → (d || is_held ops q) ≡ true
    by rest b true e h = refl
    by rest true false e h = rest (ap (λ v. v || is_held (filter p ops) q) (sym e) ∙ h)
    by rest false false e h = rest h

-- ---- what is sent

-- what is not known is sent
pub delta_holds : (ops : List Operation) (knows : Id → Bool) (q : Id) (o : Operation) → get ops q ≡ Some o → knows q ≡ false
    → get (delta ops knows) q ≡ Some o
delta_holds ops knows q o g h =
    filter_kept (is_sent ops knows) ops q o g (or_first _ _ (ap not (ap knows (get_id ops q o g) ∙ h)))
  where
    or_first : (a b : Bool) → a ≡ true → (a || b) ≡ true
    or_first true b h = refl
    or_first false b h = absurd (false≢true h)

-- what is known alike is sent alike
pub same_delta : (ops : List Operation) (knows others : Id → Bool) → ((q : Id) → knows q ≡ others q) → delta ops knows ≡ delta ops others
same_delta ops knows others h = ap (delta ops) (λ i q. h q i)

-- the ids of a subset give it
pub of_its_ids : (p : Operation → Bool) (ops : List Operation) → rises ops ≡ true → of_ids (is_held (filter p ops)) ops ≡ filter p ops
of_its_ids p ops h = same_gets _ _ (rises-filter _ ops h) (rises-filter p ops h)
    (λ q. by q (get (filter p ops) q) refl (get (of_ids (is_held (filter p ops)) ops) q) refl)
  where
    by : (q : Id) (x : Option Operation) → get (filter p ops) q ≡ x → (y : Option Operation)
        → get (of_ids (is_held (filter p ops)) ops) q ≡ y → y ≡ x
    by q None e None f = refl
    by q None e (Some y) f = absurd (false≢true (sym (not_held (filter p ops) q e)
        ∙ ap (is_held (filter p ops)) (sym (get_id _ q y f)) ∙ filter_passes _ ops q y f))
    by q (Some x) e y f = sym f ∙ filter_kept _ ops q x (filter_within p ops h q x e)
        (ap (is_held (filter p ops)) (get_id (filter p ops) q x e) ∙ at_held (filter p ops) q x e)

-- ---- skeletons

-- sets that hold one skeleton at each id have one skeleton
pub same_skeletons : (xs ys : List Operation) → rises xs ≡ true → rises ys ≡ true
    → ((q : Id) → option_map bare (get xs q) ≡ option_map bare (get ys q)) → skeleton xs ≡ skeleton ys
same_skeletons xs ys hx hy h = same_gets (skeleton xs) (skeleton ys) (sym (rises_bare xs) ∙ hx) (sym (rises_bare ys) ∙ hy)
    (λ q. get_bare xs q ∙ h q ∙ sym (get_bare ys q))

-- the union by skeletons: the first one's where both hold one
bare_join : (xs ys : List Operation) (q : Id) → rises xs ≡ true → rises ys ≡ true
    → option_map bare (get (join xs ys) q) ≡ option_or (option_map bare (get xs q)) (option_map bare (get ys q))
bare_join xs ys q hx hy = ap (option_map bare) (get-join xs ys q hx hy) ∙ by (get xs q) (get ys q)
  where
    by : (x y : Option Operation) → option_map bare (met x y) ≡ option_or (option_map bare x) (option_map bare y)
    by None y = refl
    by (Some x) None = refl
    by (Some x) (Some y) = refl

-- the delta for a set's own ids adds what the whole set adds
pub delta_joins : (xs ys : List Operation) → rises xs ≡ true → rises ys ≡ true
    → skeleton (join xs (delta ys (is_held xs))) ≡ skeleton (join xs ys)
delta_joins xs ys hx hy =
    let hd : rises (delta ys (is_held xs)) ≡ true = rises-filter _ ys hy in
    same_skeletons _ _ (rises-join xs (delta ys (is_held xs)) hx) (rises-join xs ys hx) (λ q.
    bare_join xs (delta ys (is_held xs)) q hx hd ∙ same q (get xs q) refl (get ys q) refl ∙ sym (bare_join xs ys q hx hy))
  where
    none : (q : Id) → get ys q ≡ None → (r : Option Operation) → get (delta ys (is_held xs)) q ≡ r → option_map bare r ≡ None
    none q e None f = refl
    none q e (Some y) f = cc (sym e ∙ filter_within _ ys hy q y f)

    same : (q : Id) → (x : Option Operation) → get xs q ≡ x → (y : Option Operation) → get ys q ≡ y
        → option_or (option_map bare x) (option_map bare (get (delta ys (is_held xs)) q))
        ≡ option_or (option_map bare x) (option_map bare y)
    same q (Some x) e y f = refl
    same q None e None f = none q f (get (delta ys (is_held xs)) q) refl
    same q None e (Some y) f = ap (option_map bare) (delta_holds ys (is_held xs) q y f (not_held xs q e))

-- the other order, where what both hold is one but for its text
pub join_turned : (xs ys : List Operation) → rises xs ≡ true → rises ys ≡ true
    → ((q : Id) (x y : Operation) → get xs q ≡ Some x → get ys q ≡ Some y → bare x ≡ bare y)
    → skeleton (join xs ys) ≡ skeleton (join ys xs)
join_turned xs ys hx hy h = same_skeletons _ _ (rises-join xs ys hx) (rises-join ys xs hy) (λ q.
    bare_join xs ys q hx hy ∙ by q (get xs q) refl (get ys q) refl ∙ sym (bare_join ys xs q hy hx))
  where
    by : (q : Id) (x : Option Operation) → get xs q ≡ x → (y : Option Operation) → get ys q ≡ y
        → option_or (option_map bare x) (option_map bare y) ≡ option_or (option_map bare y) (option_map bare x)
    by q None e None f = refl
    by q None e (Some y) f = refl
    by q (Some x) e None f = refl
    by q (Some x) e (Some y) f = ap Some (h q x y e f)

-- the other order once more, where the second set was added to before
pub join_back : (xs ys zs : List Operation) → rises xs ≡ true → rises ys ≡ true → rises zs ≡ true → skeleton zs ≡ skeleton (join xs ys)
    → ((q : Id) (x y : Operation) → get xs q ≡ Some x → get ys q ≡ Some y → bare x ≡ bare y)
    → skeleton (join ys zs) ≡ skeleton (join xs ys)
join_back xs ys zs hx hy hz e h = same_skeletons _ _ (rises-join ys zs hy) (rises-join xs ys hx) (λ q.
    bare_join ys zs q hy hz ∙ ap (option_or (option_map bare (get ys q))) (now q) ∙ by q (get xs q) refl (get ys q) refl
    ∙ sym (bare_join xs ys q hx hy))
  where
    now : (q : Id) → option_map bare (get zs q) ≡ option_or (option_map bare (get xs q)) (option_map bare (get ys q))
    now q = sym (get_bare zs q) ∙ ap (λ ops. get ops q) e ∙ get_bare (join xs ys) q ∙ bare_join xs ys q hx hy

    by : (q : Id) (x : Option Operation) → get xs q ≡ x → (y : Option Operation) → get ys q ≡ y
        → option_or (option_map bare y) (option_or (option_map bare x) (option_map bare y))
        ≡ option_or (option_map bare x) (option_map bare y)
    by q x f None g = refl
    by q None f (Some y) g = refl
    by q (Some x) f (Some y) g = sym (ap Some (h q x y f g))

-- what passes the test that all pass is all
pub all_pass : (ops : List Operation) → filter (λ (o : Operation). true) ops ≡ ops
all_pass [] = refl
all_pass (o ∷ ops) = ap (λ xs. o ∷ xs) (all_pass ops)

-- the ids of all that is held give it
pub all_ids : (ops : List Operation) → rises ops ≡ true → of_ids (is_held ops) ops ≡ ops
all_ids ops h = ap (λ (xs : List Operation). of_ids (is_held xs) ops) (sym (all_pass ops)) ∙ of_its_ids (λ o. true) ops h ∙ all_pass ops
