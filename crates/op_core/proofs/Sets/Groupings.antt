-- Three sets joined in either grouping.
use Rattle.std.proofs.Common.{◌≡◌, ℕ, Bool, true, false, not, cond, ◌||◌, filter, List, [], ◌∷◌, Option, Some, None, option_map, refl, sym, ap, ◌∙◌}
use Rattle.std.specs.Option.{is_some}
use Rattle.std.proofs.lemmas.Bool.{false≢true, false_from_ne_true}
use Rattle.op_core.specs.Ids.{Id, same_id}
use Rattle.op_core.specs.Ops.{Operation, is_full, bare, with_text, texts_agree}
use Rattle.op_core.specs.Sets.{rises, get, meet_text, meet, met, join, clash}
use Rattle.op_core.specs.Shown.{is_shown, shown, pick}
use Rattle.op_core.specs.Thinned.{is_legal, all_full, skeleton, StandsFor, lacks_thinned, is_sent, delta}
use Rattle.op_core.specs.ThinLaws.{JoinsInAnyOrder, KnowsNoMore}
use Rattle.op_core.proofs.Sets.Gets.{all_at}
use Rattle.op_core.proofs.Sets.Union.{same_gets, rises-join, get-join, join_assoc, join_itself, AgreeAtAll, agree_from_no_clash, join_comm}
use Rattle.op_core.proofs.Sets.Clashes.{get_id}
use Rattle.op_core.proofs.Sets.Agreement.{Agree, agree_full, kept_text}
use Rattle.op_core.proofs.Sets.NoClash.{no_clash, agree_at_turned}
use Rattle.op_core.proofs.ThinnedSets.StandIns.{join_stands, shows_same}
use Rattle.op_core.proofs.ThinnedSets.Bare.{is_shown_same, rises_bare}
use Rattle.op_core.proofs.Sets.Filters.{rises-filter, filter_within, filter_kept, all-filter}
use Rattle.op_core.proofs.Sets.Legal.{shown_full}
use Rattle.op_core.proofs.ThinnedSets.Alike.{picks_alike, exports_alike}
use Rattle.op_core.specs.Export.{export}
use Rattle.usfm_ref.specs.declared.segment.Segment.{Segment}

meet_text_agrees : (a b c : Option (List ℕ)) → texts_agree a c ≡ true → texts_agree (meet_text a b) c ≡ true
meet_text_agrees None b c h = refl
meet_text_agrees (Some a) None c h = refl
meet_text_agrees (Some a) (Some b) c h = h

-- what agrees with both agrees with their union
pub join_agrees : (a b c : List Operation) → rises a ≡ true → rises b ≡ true → AgreeAtAll a c → AgreeAtAll b c → AgreeAtAll (join a b) c
join_agrees a b c ha hb f g q x z gx gz = by (get a q) refl (get b q) refl (sym (get-join a b q ha hb) ∙ gx)
  where
    by : (m : Option Operation) → get a q ≡ m → (k : Option Operation) → get b q ≡ k → met m k ≡ Some x → Agree x z
    by None e k d w = g q x z (d ∙ w) gz
    by (Some m) e None d w = f q x z (e ∙ w) gz
    by (Some m) e (Some k) d w =
        let r = f q m z e gz in
        let is : meet m k ≡ x = cc w in
        record {
          bares = ap bare (sym is) ∙ r.bares;
          texts = ap (λ (o : Operation). texts_agree o.text z.text) (sym is)
              ∙ meet_text_agrees m.text k.text z.text r.texts;
        }

-- what agrees with the union of full sets agrees with the first
left_agrees : (a b c : List Operation) → rises a ≡ true → rises b ≡ true → all_full a ≡ true → all_full b ≡ true → AgreeAtAll (join a b) c
    → AgreeAtAll a c
left_agrees a b c ha hb fa fb h q x z gx gz = by (get b q) refl
  where
    held : (k : Option Operation) → get b q ≡ k → get (join a b) q ≡ met (Some x) k
    held k e = get-join a b q ha hb ∙ (λ i. met (gx i) (e i))

    by : (k : Option Operation) → get b q ≡ k → Agree x z
    by None e = h q x z (held None e) gz
    by (Some y) e =
        let r = h q (meet x y) z (held (Some y) e) gz in
        let same = kept_text x.text y.text (all_at is_full b q y fb e) in
        record { bares = r.bares; texts = ap (λ t. texts_agree t z.text) (sym same) ∙ r.texts }

pub groupings_alike : (a b c : List Operation) → rises a ≡ true → rises b ≡ true → rises c ≡ true → all_full a ≡ true → all_full b ≡ true
    → clash a b ≡ None → clash (join a b) c ≡ None → (clash b c ≡ None) × (clash a (join b c) ≡ None)
groupings_alike a b c ha hb hc fa fb n m =
    let ab = agree_from_no_clash a b n in
    let abc = agree_from_no_clash (join a b) c m in
    let ac = left_agrees a b c ha hb fa fb abc in
    let bac : AgreeAtAll (join b a) c = λ q x z gx gz. abc q x z (ap (λ s. get s q) (join_comm a b ha hb ab) ∙ gx) gz in
    let bc = left_agrees b a c hb ha fb fa bac in (
      no_clash b c hc bc,
      no_clash a (join b c) (rises-join b c hb)
          (agree_at_turned (join b c) a (join_agrees b c a hb hc (agree_at_turned a b ab) (agree_at_turned a c ac))),
    )

-- sets that stand for full ones without a clash are joined in any order
pub stand_ins_join : (s u t v r w : List Operation) → StandsFor s u → StandsFor t v → StandsFor r w → clash u v ≡ None → clash v w ≡ None
    → clash u w ≡ None → JoinsInAnyOrder s t r
stand_ins_join s u t v r w hs ht hr uv vw uw =
    let auv = agree_from_no_clash u v uv in
    let avw = agree_from_no_clash v w vw in
    let auw = agree_from_no_clash u w uw in
    let st = join_stands s u t v hs ht uv in
    let tr = join_stands t v r w ht hr vw in
    let left : clash (join u v) w
    ≡ None = no_clash (join u v) w hr.whole_rising (join_agrees u v w hs.whole_rising ht.whole_rising auw avw) in
    let right : clash u (join v w)
    ≡ None = no_clash u (join v w) (rises-join v w ht.whole_rising)
    (agree_at_turned (join v w) u
    (join_agrees v w u ht.whole_rising hr.whole_rising (agree_at_turned u v auv) (agree_at_turned u w auw))) in
    record {
      left_first = st.0;
      left_then = (join_stands (join s t) (join u v) r w st.1 hr left).0;
      right_first = tr.0;
      right_then = (join_stands s u (join t r) (join v w) hs tr.1 right).0;
      associative = join_assoc s t r hs.rising ht.rising hr.rising;
      commutes = join_comm s t hs.rising ht.rising (agree_from_no_clash s t st.0);
      idempotent = join_itself s hs.rising;
    }

-- ---- sets with equal skeletons

-- under an id a skeleton holds what the set holds there, without its text
pub get_bare : (ops : List Operation) (q : Id) → get (skeleton ops) q ≡ option_map bare (get ops q)
get_bare [] q = refl
get_bare (o ∷ ops) q = ap (cond (same_id q o.id) (Some (bare o))) (get_bare ops q) ∙ by (same_id q o.id) (get ops q)
  where
    by : (b : Bool) (r : Option Operation) → cond b (Some (bare o)) (option_map bare r) ≡ option_map bare (cond b (Some o) r)
    by true r = refl
    by false r = refl

-- full sets without a clash that are equal but for texts are equal
pub one_whole : (u v : List Operation) → rises u ≡ true → rises v ≡ true → all_full u ≡ true → all_full v ≡ true → clash u v ≡ None
    → skeleton u ≡ skeleton v → u ≡ v
one_whole u v hu hv fu fv n e =
    same_gets u v hu hv (λ q. by q (get u q) refl (get v q) refl (sym (get_bare u q) ∙ ap (λ s. get s q) e ∙ get_bare v q))
  where
    by : (q : Id) (m : Option Operation) → get u q ≡ m → (k : Option Operation) → get v q ≡ k
        → option_map bare (get u q) ≡ option_map bare (get v q) → get u q ≡ get v q
    by q None d None f b = d ∙ sym f
    by q None d (Some y) f b = cc (sym (ap (option_map bare) d) ∙ b ∙ ap (option_map bare) f)
    by q (Some x) d None f b = cc (sym (ap (option_map bare) d) ∙ b ∙ ap (option_map bare) f)
    by q (Some x) d (Some y) f b =
        d ∙ ap Some (agree_full x y (agree_from_no_clash u v n q x y d f) (all_at is_full u q x fu d) (all_at is_full v q y fv f)) ∙ sym f

pub same_whole : (s u t v : List Operation) → StandsFor s u → StandsFor t v → clash u v ≡ None → skeleton s ≡ skeleton t → u ≡ v
same_whole s u t v h g n e = one_whole u v h.whole_rising g.whole_rising h.whole_full g.whole_full n (sym h.skeletons ∙ e ∙ g.skeletons)

pub same_skeleton_shows_same : (s u t v : List Operation) (seg : Segment) → StandsFor s u → StandsFor t v → clash u v ≡ None
    → skeleton s ≡ skeleton t → shown s seg ≡ shown t seg
same_skeleton_shows_same s u t v seg h g n e =
    shows_same s u seg h ∙ ap (λ x. shown x seg) (same_whole s u t v h g n e) ∙ sym (shows_same t v seg g)

-- ---- legal sets with equal skeletons that do not clash

skeleton_filter : (P : Operation → Bool) (ops : List Operation) → skeleton (filter (λ o. P (bare o)) ops) ≡ filter P (skeleton ops)
skeleton_filter P [] = refl
skeleton_filter P (o ∷ ops) = by (P (bare o)) (skeleton_filter P ops)
  where
    by : (b : Bool) → skeleton (filter (λ o. P (bare o)) ops) ≡ filter P (skeleton ops)
        → skeleton (cond b (o ∷ filter (λ o. P (bare o)) ops) (filter (λ o. P (bare o)) ops))
        ≡ cond b (bare o ∷ filter P (skeleton ops)) (filter P (skeleton ops))
    by true rest = ap (λ xs. bare o ∷ xs) rest
    by false rest = rest

pub agree_subsets : (p q : Operation → Bool) (a b : List Operation) → rises a ≡ true → rises b ≡ true → AgreeAtAll a b
    → AgreeAtAll (filter p a) (filter q b)
agree_subsets p q a b ha hb h id x y gx gy = h id x y (filter_within p a ha id x gx) (filter_within q b hb id y gy)

-- legal sets with one skeleton that do not clash show the same
pub skeleton_shows : (s t : List Operation) (seg : Segment) → rises s ≡ true → rises t ≡ true → is_legal s ≡ true → is_legal t ≡ true
    → clash s t ≡ None → skeleton s ≡ skeleton t → shown s seg ≡ shown t seg
skeleton_shows s t seg hs ht ls lt n e =
    let ps = is_shown s seg in
    let pt = is_shown t seg in
    let rs = rises-filter ps s hs in
    let rt = rises-filter pt t ht in
    one_whole (shown s seg) (shown t seg) rs rt (shown_full s seg ls) (shown_full t seg lt)
    (no_clash (shown s seg) (shown t seg) rt (agree_subsets ps pt s t hs ht (agree_from_no_clash s t n)))
    (skeleton_filter ps s ∙ (λ i. filter (λ o. is_shown_same s t e seg o i) (e i)) ∙ sym (skeleton_filter pt t))

pub skeleton_picks : (s t : List Operation) (seg : Segment) → rises s ≡ true → rises t ≡ true → is_legal s ≡ true → is_legal t ≡ true
    → clash s t ≡ None → skeleton s ≡ skeleton t → pick s seg ≡ pick t seg
skeleton_picks s t seg hs ht ls lt n e = picks_alike s t (λ seg. skeleton_shows s t seg hs ht ls lt n e) seg

-- ---- deltas

-- full sets without a clash: a subset that has what the first lacks adds as much
pub covering_joins : (xs ys : List Operation) (p : Operation → Bool) → rises xs ≡ true → rises ys ≡ true → all_full xs ≡ true
    → all_full ys ≡ true → ((q : Id) (o : Operation) → get xs q ≡ None → get ys q ≡ Some o → p o ≡ true)
    → join xs (filter p ys) ≡ join xs ys
covering_joins xs ys p hx hy fx fy covers =
    let hp = rises-filter p ys hy in
    same_gets _ _ (rises-join xs (filter p ys) hx) (rises-join xs ys hx)
    (λ q. get-join xs (filter p ys) q hx hp ∙ by q (get xs q) refl (get ys q) refl (get (filter p ys) q) refl
    ∙ sym (get-join xs ys q hx hy))
  where
    met_full : (q : Id) (x : Operation) (k : Option Operation) (zs : List Operation) → all_full zs ≡ true → get xs q ≡ Some x → get zs q ≡ k
        → met (Some x) k ≡ Some x
    met_full q x None zs fz e f = refl
    met_full q x (Some z) zs fz e f =
        ap (λ t. Some (with_text x t)) (kept_text x.text z.text (all_at is_full zs q z fz f))

    by : (q : Id) (m : Option Operation) → get xs q ≡ m → (k : Option Operation) → get ys q ≡ k → (f : Option Operation)
        → get (filter p ys) q ≡ f → met (get xs q) (get (filter p ys) q) ≡ met (get xs q) (get ys q)
    by q (Some x) e k d f c =
        (λ i. met (e i) (c i)) ∙ met_full q x f (filter p ys) (all-filter is_full p ys fy) e c ∙ sym (met_full q x k ys fy e d)
        ∙ (λ i. met (sym e i) (sym d i))
    by q None e (Some y) d f c = ap (met (get xs q)) (filter_kept p ys q y d (covers q y e d) ∙ sym d)
    by q None e None d None c = ap (met (get xs q)) (c ∙ sym d)
    by q None e None d (Some z) c = cc (sym d ∙ filter_within p ys hy q z c)

-- what is known is held, so what is not held is lacked
unknown : (knows : Id → Bool) (ops : List Operation) (q : Id) → KnowsNoMore knows ops → is_some (get ops q) ≡ false → knows q ≡ false
unknown knows ops q k n = false_from_ne_true (knows q) (λ e. false≢true (sym n ∙ k q e))

-- what another copy lacks gives it the union, but for texts left out
pub delta_joins : (s t : List Operation) (knows : Id → Bool) → rises s ≡ true → rises t ≡ true → clash s t ≡ None → KnowsNoMore knows s
    → (clash s (delta t knows) ≡ None) × (skeleton (join s (delta t knows)) ≡ skeleton (join s t))
delta_joins s t knows hs ht n k =
    let sent = is_sent t knows in
    let hd : rises (delta t knows) ≡ true = rises-filter sent t ht in
    let same = agree_from_no_clash s t n in (
      no_clash s (delta t knows) hd (λ q x y gx gy. same q x y gx (filter_within sent t ht q y gy)),
      same_gets _ _ (sym (rises_bare (join s (delta t knows))) ∙ rises-join s (delta t knows) hs)
          (sym (rises_bare (join s t)) ∙ rises-join s t hs) (λ q.
          get_bare (join s (delta t knows)) q ∙ ap (option_map bare) (get-join s (delta t knows) q hs hd)
          ∙ by q (get s q) refl (get t q) refl (get (delta t knows) q) refl
          ∙ ap (option_map bare) (sym (get-join s t q hs ht)) ∙ sym (get_bare (join s t) q)),
    )
  where
    met_bare : (x : Operation) (k : Option Operation) → option_map bare (met (Some x) k) ≡ Some (bare x)
    met_bare x None = refl
    met_bare x (Some y) = refl

    by : (q : Id) (x : Option Operation) → get s q ≡ x → (y : Option Operation) → get t q ≡ y → (z : Option Operation)
        → get (delta t knows) q ≡ z
        → option_map bare (met (get s q) (get (delta t knows) q)) ≡ option_map bare (met (get s q) (get t q))
    by q (Some x) e y f z g =
        (λ i. option_map bare (met (e i) (get (delta t knows) q))) ∙ met_bare x (get (delta t knows) q) ∙ sym (met_bare x (get t q))
        ∙ (λ i. option_map bare (met (sym e i) (get t q)))
    by q None e (Some y) f z g =
        let lacked : is_sent t knows y
        ≡ true = ap (λ b. not b || lacks_thinned t knows y.segment)
        (unknown knows s y.id k (ap is_some (ap (get s) (get_id t q y f) ∙ e))) in
        ap (λ r. option_map bare (met (get s q) r)) (filter_kept (is_sent t knows) t q y f lacked ∙ sym f)
    by q None e None f None g = ap (λ r. option_map bare (met (get s q) r)) (g ∙ sym f)
    by q None e None f (Some z) g = cc (sym f ∙ filter_within (is_sent t knows) t ht q z g)

pub deltas_add : (s u t v : List Operation) (knows : Id → Bool) → StandsFor s u → StandsFor t v → clash u v ≡ None → KnowsNoMore knows s
    → (join u (filter (is_sent t knows) v) ≡ join u v) × (skeleton (join s (delta t knows)) ≡ skeleton (join s t))
deltas_add s u t v knows h g n k =
    let none = (join_stands s u t v h g n).0 in (
      covering_joins u v (is_sent t knows) h.whole_rising g.whole_rising h.whole_full g.whole_full covers,
      (delta_joins s t knows h.rising g.rising none k).1,
    )
  where
    held_alike : (q : Id) → option_map bare (get s q) ≡ option_map bare (get u q)
    held_alike q = sym (get_bare s q) ∙ ap (λ xs. get xs q) h.skeletons ∙ get_bare u q

    lacks : (q : Id) (r : Option Operation) → get s q ≡ r → get u q ≡ None → is_some r ≡ false
    lacks q None e none = refl
    lacks q (Some x) e none = cc (sym (ap (option_map bare) e) ∙ held_alike q ∙ ap (option_map bare) none)

    covers : (q : Id) (o : Operation) → get u q ≡ None → get v q ≡ Some o → is_sent t knows o ≡ true
    covers q o none held =
        let at : get u o.id ≡ None = ap (get u) (get_id v q o held) ∙ none in
        ap (λ b. not b || lacks_thinned t knows o.segment) (unknown knows s o.id k (lacks o.id (get s o.id) refl at))

-- legal sets with one skeleton that do not clash have one export of each book
pub skeleton_exports : (s t : List Operation) (book : List ℕ) → rises s ≡ true → rises t ≡ true → is_legal s ≡ true → is_legal t ≡ true
    → clash s t ≡ None → skeleton s ≡ skeleton t → export s book ≡ export t book
skeleton_exports s t book hs ht ls lt n e = exports_alike s t e (λ g. skeleton_shows s t g hs ht ls lt n e) book
