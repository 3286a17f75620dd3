-- Sets that change in place.
use Rattle.std.proofs.Common.{zero, suc, ◌<◌, length, get_or, arith, ◌≡◌, ℕ, Bool, true, false, not, cond, ◌&&◌, List, [], ◌∷◌, Option, Some, None, filter, option_map, refl, sym, ap, ◌∙◌}
use Rattle.std.specs.Prelude.{is_none, slice_set}
use Rattle.std.specs.Option.{is_some}
use Rattle.std.specs.Cmp.{both_ways}
use Rattle.std.specs.List.{list_all, AllByRecursion}
use Rattle.std.proofs.lemmas.Bool.{and_parts, and_from, false≢true, cond-true, false_from_ne_true}
use Rattle.usfm_ref.proofs.Orders.{same_segment-refl}
use Rattle.op_core.specs.Ids.{Id, same_id, id_below}
use Rattle.op_core.specs.Ops.{Operation, is_full, is_thinned, bare, with_text}
use Rattle.op_core.specs.Sets.{rises, get, meet_text, meet, met, join, clash}
use Rattle.op_core.specs.Lists.{shown_ids}
use Rattle.op_core.specs.NextIds.{is_among}
use Rattle.op_core.specs.Shown.{is_shown, shown}
use Rattle.op_core.specs.Thinned.{is_past, is_legal, bare_where, thin_where, is_thinned_in, ArePast, skeleton}
use Rattle.op_core.specs.ThinLaws.{TwoSteps}
use Rattle.op_core.specs.Equal.{id_from_same, same_id-refl}
use Rattle.op_core.proofs.Sets.Union.{AllAbove, rises_parts, get_above, apart_above, same_gets, rises-join, get-join, AgreeAtAll, agree_from_no_clash}
use Rattle.op_core.proofs.Sets.Clashes.{get_id}
use Rattle.op_core.proofs.Sets.Gets.{any_from, any_held}
use Rattle.op_core.proofs.Sets.Agreement.{Agree, meet_full}
use Rattle.op_core.proofs.ThinnedSets.Bare.{past_same, rises_same}
use Rattle.op_core.proofs.Sets.Filters.{rises-filter, filter_within, filter_kept, filter_passes}
use Rattle.op_core.proofs.Sets.Legal.{legal_at, legal_from, join_legal}
use Rattle.op_core.proofs.Sets.Families.{among_held}

-- ---- some texts left out

module _ (p : Id → Bool) where
  bare_left : (o : Operation) → bare (bare_where p o) ≡ bare o
  bare_left o = elim (p o.id) as (λ b. bare (cond b (bare o) o) ≡ bare o) [ true ↦ refl | false ↦ refl ]

  pub skeleton_where : (ops : List Operation) → skeleton (thin_where p ops) ≡ skeleton ops
  skeleton_where [] = refl
  skeleton_where (o ∷ ops) = λ i. bare_left o i ∷ skeleton_where ops i

  pub rises_where : (ops : List Operation) → rises ops ≡ true → rises (thin_where p ops) ≡ true
  rises_where ops h = rises_same (thin_where p ops) ops (skeleton_where ops) ∙ h

  head : (x : Operation) (ops : List Operation) (q : Id) (b d : Bool) → d ≡ b
      → get (thin_where p ops) q ≡ option_map (bare_where p) (get ops q)
      → cond d (Some (bare_where p x)) (get (thin_where p ops) q) ≡ option_map (bare_where p) (cond b (Some x) (get ops q))
  head x ops q true true e rest = refl
  head x ops q false false e rest = rest
  head x ops q true false e rest = cc
  head x ops q false true e rest = cc

  -- what is held under an id after texts were left out by a test
  pub get_where : (ops : List Operation) (q : Id) → get (thin_where p ops) q ≡ option_map (bare_where p) (get ops q)
  get_where [] q = refl
  get_where (x ∷ ops) q =
      head x ops q (same_id q x.id) (same_id q (bare_where p x).id) (ap (λ (o : Operation). same_id q o.id) (bare_left x)) (get_where ops q)

  -- leaving out texts changes nothing of what is replaced
  pub past_where : (ops : List Operation) (o : Operation) → is_past (thin_where p ops) o ≡ is_past ops o
  past_where ops o = past_same (thin_where p ops) ops (skeleton_where ops) o

  some : (x y : Operation) → Some x ≡ Some y → x ≡ y
  some x y e = cc

  pub where_legal : (s : List Operation) → rises s ≡ true → is_legal s ≡ true → ArePast p s → is_legal (thin_where p s) ≡ true
  where_legal s h l past =
      legal_from (thin_where p s) (rises_where s h) (λ o g n. past_where s o ∙ by o (get s o.id) refl (sym (get_where s o.id) ∙ g) n)
    where
      one : (x o : Operation) (b : Bool) → p x.id ≡ b → get s x.id ≡ Some x → cond b (bare x) x ≡ o → is_full o ≡ false → is_past s o ≡ true
      one x o true e g is n = ap (is_past s) (sym is) ∙ past x g e
      one x o false e g is n = ap (is_past s) (sym is) ∙ legal_at s x.id x l g (ap is_full is ∙ n)

      by : (o : Operation) (m : Option Operation) → get s o.id ≡ m → option_map (bare_where p) (get s o.id) ≡ Some o → is_full o ≡ false
          → is_past s o ≡ true
      by o None d f n = cc (sym (ap (option_map (bare_where p)) d) ∙ f)
      by o (Some x) d f n =
          let is : bare_where p x ≡ o = some (bare_where p x) o (sym (ap (option_map (bare_where p)) d) ∙ f) in
          let at : get s x.id ≡ Some x = ap (get s) (get_id s o.id x d) ∙ d in
          one x o (p x.id) refl at is n

-- ---- a union in two steps

module _ (a b : List Operation) (ha : rises a ≡ true) (hb : rises b ≡ true) (same : AgreeAtAll a b) where
  abbrev new : List Operation
  new = filter (λ o. is_none (get a o.id)) b

  thinned_at : (q : Id) (y : Operation) → get b q ≡ Some y → is_thinned_in b q ≡ is_thinned y
  thinned_at q y g = both_ways (is_thinned_in b q) (is_thinned y)
      (λ h.
      let r = any_held (λ o. same_id q o.id && is_thinned o) b hb h in
      let s = and_parts (same_id q r.one.id) (is_thinned r.one) r.passes in
      let at : get b q ≡ Some r.one = ap (get b) (id_from_same q r.one.id s.0) ∙ r.held in
      let is : r.one ≡ y = one (sym at ∙ g) in
      ap is_thinned (sym is) ∙ s.1)
      (λ h. any_from (λ o. same_id q o.id && is_thinned o) b q y g (and_from _ _ (ap (same_id q) (get_id b q y g) ∙ same_id-refl q) h))
    where
      one : {x z : Operation} → Some x ≡ Some z → x ≡ z
      one e = cc

  not_thinned : (q : Id) → get b q ≡ None → is_thinned_in b q ≡ false
  not_thinned q g = false_from_ne_true _ (λ h.
      let r = any_held (λ o. same_id q o.id && is_thinned o) b hb h in
      let s = and_parts (same_id q r.one.id) (is_thinned r.one) r.passes in
      cc (sym g ∙ ap (get b) (id_from_same q r.one.id s.0) ∙ r.held))

  new_none : (q : Id) → get b q ≡ None → (r : Option Operation) → get new q ≡ r → r ≡ None
  new_none q e None f = refl
  new_none q e (Some y) f = cc (sym e ∙ filter_within (λ o. is_none (get a o.id)) b hb q y f)

  new_held : (q : Id) (x : Operation) → get a q ≡ Some x → (r : Option Operation) → get new q ≡ r → r ≡ None
  new_held q x e None f = refl
  new_held q x e (Some y) f = cc (sym (ap is_none (ap (get a) (get_id new q y f) ∙ e)) ∙ filter_passes (λ o. is_none (get a o.id)) b q y f)

  left_out : (x y : Operation) → Agree x y → meet x y ≡ cond (is_thinned y) (bare x) x
  left_out x y h = by x.text refl y.text refl
    where
      by : (m : Option (List ℕ)) → x.text ≡ m → (k : Option (List ℕ)) → y.text ≡ k
          → with_text x (meet_text x.text y.text) ≡ cond (not (is_some y.text)) (bare x) x
      by None e None f = (λ i. with_text x (meet_text (e i) (f i))) ∙ ap (λ t. cond (not (is_some t)) (bare x) x) (sym f)
      by None e (Some k) f =
          (λ i. with_text x (meet_text (e i) (f i))) ∙ (λ i. with_text x (sym e i)) ∙ ap (λ t. cond (not (is_some t)) (bare x) x) (sym f)
      by (Some m) e None f = (λ i. with_text x (meet_text (e i) (f i))) ∙ ap (λ t. cond (not (is_some t)) (bare x) x) (sym f)
      by (Some m) e (Some k) f =
          (λ i. with_text x (meet_text (e i) (f i))) ∙ (λ i. with_text x (sym e i)) ∙ ap (λ t. cond (not (is_some t)) (bare x) x) (sym f)

  again : (y : Operation) (b : Bool) → b ≡ is_thinned y → cond b (bare y) y ≡ y
  again y false e = refl
  again y true e = by y.text refl
    where
      by : (m : Option (List ℕ)) → y.text ≡ m → bare y ≡ y
      by None f = λ i. with_text y (sym f i)
      by (Some m) f = cc (e ∙ ap (λ t. not (is_some t)) f)

  pub joins_in_two : join a b ≡ thin_where (is_thinned_in b) (join a new)
  joins_in_two =
      let hn : rises new ≡ true = rises-filter (λ o. is_none (get a o.id)) b hb in
      same_gets _ _ (rises-join a b ha) (rises_where (is_thinned_in b) (join a new) (rises-join a new ha)) (λ q.
      get-join a b q ha hb ∙ by q (get a q) refl (get b q) refl
      ∙ ap (option_map (bare_where (is_thinned_in b))) (sym (get-join a new q ha hn))
      ∙ sym (get_where (is_thinned_in b) (join a new) q))
    where
      by : (q : Id) (m : Option Operation) → get a q ≡ m → (k : Option Operation) → get b q ≡ k
          → met (get a q) (get b q) ≡ option_map (bare_where (is_thinned_in b)) (met (get a q) (get new q))
      by q None d None e =
          (λ i. met (d i) (e i))
          ∙ ap (option_map (bare_where (is_thinned_in b))) (λ i. met (sym d i) (sym (new_none q e (get new q) refl) i))
      by q None d (Some y) e =
          let in_new : get new q ≡ Some y =
          filter_kept (λ o. is_none (get a o.id)) b q y e (ap is_none (ap (get a) (get_id b q y e) ∙ d)) in
          let mark : is_thinned_in b y.id ≡ is_thinned y = thinned_at y.id y (ap (get b) (get_id b q y e) ∙ e) in
          (λ i. met (d i) (e i)) ∙ ap Some (sym (again y (is_thinned_in b y.id) mark))
          ∙ ap (option_map (bare_where (is_thinned_in b))) (λ i. met (sym d i) (sym in_new i))
      by q (Some x) d None e =
          let mark : is_thinned_in b x.id ≡ false = not_thinned x.id (ap (get b) (get_id a q x d) ∙ e) in
          (λ i. met (d i) (e i)) ∙ ap (λ c. Some (cond c (bare x) x)) (sym mark)
          ∙ ap (option_map (bare_where (is_thinned_in b))) (λ i. met (sym d i) (sym (new_none q e (get new q) refl) i))
      by q (Some x) d (Some y) e =
          let mark : is_thinned_in b x.id ≡ is_thinned y = thinned_at x.id y (ap (get b) (get_id a q x d) ∙ e) in
          (λ i. met (d i) (e i)) ∙ ap Some (left_out x y (same q x y d e)) ∙ ap (λ c. Some (cond c (bare x) x)) (sym mark)
          ∙ ap (option_map (bare_where (is_thinned_in b))) (λ i. met (sym d i) (sym (new_held q x d (get new q) refl) i))

  -- in between the same is named, and no more is thinned
  pub between_legal : is_legal a ≡ true → is_legal b ≡ true → is_legal (join a new) ≡ true
  between_legal la lb =
      let hn : rises new ≡ true = rises-filter (λ o. is_none (get a o.id)) b hb in
      legal_from (join a new) (rises-join a new ha)
      (λ o g n. still o ∙ by o (get a o.id) refl (get b o.id) refl (sym (get-join a new o.id ha hn) ∙ g) n)
    where
      all_legal : is_legal (join a b) ≡ true
      all_legal = join_legal a b ha hb la lb same

      still : (o : Operation) → is_past (join a new) o ≡ is_past (join a b) o
      still o = sym (past_where (is_thinned_in b) (join a new) o) ∙ ap (λ s. is_past s o) (sym joins_in_two)

      held : (o : Operation) (m k : Option Operation) → get a o.id ≡ m → get b o.id ≡ k → get (join a b) o.id ≡ met m k
      held o m k d e = get-join a b o.id ha hb ∙ (λ i. met (d i) (e i))

      thin_still : (x y : Operation) → is_full x ≡ false → is_full (meet x y) ≡ false
      thin_still x y n = false_from_ne_true _ (λ f. false≢true (sym n ∙ (meet_full x.text y.text f).0))

      by : (o : Operation) (m : Option Operation) → get a o.id ≡ m → (k : Option Operation) → get b o.id ≡ k
          → met (get a o.id) (get new o.id) ≡ Some o → is_full o ≡ false → is_past (join a b) o ≡ true
      by o None d None e g n = cc (sym (λ i. met (d i) (new_none o.id e (get new o.id) refl i)) ∙ g)
      by o None d (Some y) e g n =
          let in_new : get new o.id ≡ Some y =
          filter_kept (λ o. is_none (get a o.id)) b o.id y e (ap is_none (ap (get a) (get_id b o.id y e) ∙ d)) in
          let at : get (join a b) o.id ≡ Some o = held o None (Some y) d e ∙ sym (λ i. met (d i) (in_new i)) ∙ g in
          legal_at (join a b) o.id o all_legal at n
      by o (Some x) d None e g n =
          let at : get (join a b) o.id ≡ Some o = held o (Some x) None d e ∙ sym (λ i. met (d i) (new_none o.id e (get new o.id) refl i))
          ∙ g in
          legal_at (join a b) o.id o all_legal at n
      by o (Some x) d (Some y) e g n =
          let is : Some x ≡ Some o = sym (λ i. met (d i) (new_held o.id x d (get new o.id) refl i)) ∙ g in
          let same' : x ≡ o = cc is in
          ap (is_past (join a b)) (sym same')
          ∙ legal_at (join a b) o.id (meet x y) all_legal (held o (Some x) (Some y) d e) (thin_still x y (ap is_full same' ∙ n))

-- what the other has thinned is past in between
pub past_between : (a b : List Operation) → rises a ≡ true → rises b ≡ true → is_legal a ≡ true → is_legal b ≡ true → clash a b ≡ None
    → (o : Operation) → get (join a (filter (λ o. is_none (get a o.id)) b)) o.id ≡ Some o → is_thinned_in b o.id ≡ true
    → is_past (join a (filter (λ o. is_none (get a o.id)) b)) o ≡ true
past_between a b ha hb la lb n o g t =
    let same = agree_from_no_clash a b n in
    let two = joins_in_two a b ha hb same in
    let between = join a (filter (λ o. is_none (get a o.id)) b) in
    let gone : bare_where (is_thinned_in b) o ≡ bare o = cond-true (is_thinned_in b o.id) (bare o) o t in
    let at : get (join a b) o.id ≡ Some (bare o) = ap (λ xs. get xs o.id) two ∙ get_where (is_thinned_in b) between o.id
    ∙ ap (option_map (bare_where (is_thinned_in b))) g ∙ ap Some gone in
    sym (past_where (is_thinned_in b) between o) ∙ ap (λ xs. is_past xs o) (sym two)
    ∙ legal_at (join a b) o.id (bare o) (join_legal a b ha hb la lb same) at refl

-- joining is taking in what is new, and leaving out what the other side left out
pub two_steps : (a b : List Operation) → rises a ≡ true → rises b ≡ true → clash a b ≡ None → TwoSteps a b
two_steps a b ha hb n =
    record { joins = joins_in_two a b ha hb (agree_from_no_clash a b n); legal = between_legal a b ha hb (agree_from_no_clash a b n) }

-- ---- what is past

pub past_not_shown : (s : List Operation) (o : Operation) → rises s ≡ true → get s o.id ≡ Some o
    → is_past s o ≡ not (is_among (shown_ids s o.segment) o.id)
past_not_shown s o h g = by (is_past s o) refl
  where
    tested : is_shown s o.segment o ≡ not (is_past s o)
    tested = ap (λ b. b && not (is_past s o)) (same_segment-refl o.segment)

    gone : (r : Option Operation) → get (shown s o.segment) o.id ≡ r → is_past s o ≡ true → r ≡ None
    gone None f e = refl
    gone (Some x) f e =
        let within = filter_within (is_shown s o.segment) s h o.id x f in
        let is : Some o ≡ Some x = sym g ∙ within in
        let same : o ≡ x = cc is in
        absurd (false≢true (sym (tested ∙ ap not e) ∙ ap (is_shown s o.segment) same ∙ filter_passes (is_shown s o.segment) s o.id x f))

    by : (b : Bool) → is_past s o ≡ b → is_past s o ≡ not (is_among (shown_ids s o.segment) o.id)
    by true e = e ∙ sym (ap not (among_held (shown s o.segment) o.id ∙ ap is_some (gone (get (shown s o.segment) o.id) refl e)))
    by false e =
        e
        ∙ sym (ap not (among_held (shown s o.segment) o.id
        ∙ ap is_some (filter_kept (is_shown s o.segment) s o.id o g (tested ∙ ap not e))))

-- ---- texts left out in place

pub where_none : (q : Id) (ops : List Operation) → get ops q ≡ None → thin_where (same_id q) ops ≡ ops
where_none q [] g = refl
where_none q (x ∷ ops) g = by (where_none q ops) (same_id q x.id) refl g
  where
    by : (get ops q ≡ None → thin_where (same_id q) ops ≡ ops) → (b : Bool) → same_id q x.id ≡ b → cond b (Some x) (get ops q) ≡ None
        → thin_where (same_id q) (x ∷ ops) ≡ x ∷ ops
    by rest true e g = cc g
    by rest false e g = λ i. cond (e i) (bare x) x ∷ rest g i

pub where_at : (q : Id) (ops : List Operation) (at : ℕ) (o : Operation) → rises ops ≡ true → at < length ops → o ≡ get_or ops at o
    → o.id ≡ q → slice_set ops at (bare o) ≡ thin_where (same_id q) ops
where_at q [] at o h l e f = absurd (omega arith)
where_at q (x ∷ ops) zero o h l e f =
    let p = rises_parts x ops h in
    let is : x.id ≡ q = ap (λ (y : Operation). y.id) (sym e) ∙ f in
    let none : get ops q ≡ None = ap (get ops) (sym is) ∙ get_above x.id ops p.0 in
    let same : same_id q x.id ≡ true = ap (same_id q) is ∙ same_id-refl q in
    λ i. cond (sym same i) (bare (e i)) x ∷ sym (where_none q ops none) i
where_at q (x ∷ ops) (suc at) o h l e f =
    let p = rises_parts x ops h in
    let held : AllByRecursion (λ (y : Operation). id_below x.id y.id ≡ true) ops = all_of ops p.0 in
    let above : id_below x.id o.id ≡ true = reach ops at (omega arith) e held in
    let apart : same_id q x.id ≡ false = ap (λ (i : Id). same_id i x.id) (sym f) ∙ apart_above o.id x.id above in
    λ i. cond (sym apart i) (bare x) x ∷ where_at q ops at o p.1 (omega arith) e f i
  where
    all_of : (ys : List Operation) → AllAbove x.id ys → AllByRecursion (λ (y : Operation). id_below x.id y.id ≡ true) ys
    all_of [] a = tt
    all_of (y ∷ ys) a = let r = and_parts (id_below x.id y.id) (list_all (λ p. id_below x.id p.id) ys) a in (r.0, all_of ys r.1)

    reach : (ys : List Operation) (k : ℕ) → k < length ys → o ≡ get_or ys k o
        → AllByRecursion (λ (y : Operation). id_below x.id y.id ≡ true) ys → id_below x.id o.id ≡ true
    reach [] k l e a = absurd (omega arith)
    reach (y ∷ ys) zero l e a = ap (λ (z : Operation). id_below x.id z.id) e ∙ a.0
    reach (y ∷ ys) (suc k) l e a = reach ys k (omega arith) e a.1
