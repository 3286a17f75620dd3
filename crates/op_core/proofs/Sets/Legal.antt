-- Legal sets: each thinned operation is named by one of its segment.
use Rattle.std.proofs.Common.{◌≡◌, ◌⊎◌, inl, inr, Bool, true, false, not, cond, ◌&&◌, ◌||◌, List, [], ◌∷◌, map, filter, refl, sym, ap, ◌∙◌, Option, Some, None}
use Rattle.std.specs.declared.cmp.Ordering.TheVariants.{Less, Equal, Greater}
use Rattle.std.specs.List.{list_all, list_any}
use Rattle.std.specs.FinMap.Entries.{by_order}
use Rattle.std.proofs.lemmas.Bool.{and_parts, and_from, false≢true, not-true, or_left, or_right}
use Rattle.op_core.specs.Ids.{Id, id_cmp}
use Rattle.op_core.specs.Ops.{Operation, is_full, is_thinned, bare, in_segment, names}
use Rattle.op_core.specs.Sets.{rises, get, meet, met, put, join}
use Rattle.op_core.specs.Shown.{is_replaced, is_shown, shown, last, wants_chapter_line, greatest, pick}
use Rattle.op_core.specs.Shown.Pick.{Line, Greatest}
use Rattle.op_core.specs.Thinned.{is_past, is_legal, all_full, thinned_in, thin, skeleton, is_lacked, lacks_thinned, is_sent, delta}
use Rattle.op_core.proofs.Sets.Gets.{all_at, all_from, any_held, any_from}
use Rattle.op_core.proofs.Sets.Union.{rises-join, get-join, AgreeAtAll, join_comm}
use Rattle.op_core.proofs.Sets.Agreement.{thinned_meets, full_meets}
use Rattle.op_core.proofs.ThinnedSets.Bare.{past_same}
use Rattle.op_core.proofs.Sets.Filters.{rises-filter, filter_within, filter_passes, filter_kept, all_of_filter}
use Rattle.usfm_ref.specs.declared.segment.Segment.{Segment}
use Rattle.usfm_ref.proofs.Orders.{same_segment-is, same_segment-refl}
use Rattle.op_core.proofs.Sets.Clashes.{get_cases}

or_cases : (a b : Bool) → (a || b) ≡ true → (a ≡ true) ⊎ (b ≡ true)
or_cases true b h = inl refl
or_cases false b h = inr h

full_or : (b p : Bool) → (b ≡ false → p ≡ true) → (b || p) ≡ true
full_or true p h = refl
full_or false p h = h refl

or_past : (b p : Bool) → (b || p) ≡ true → b ≡ false → p ≡ true
or_past true p h e = absurd (false≢true (sym e))
or_past false p h e = h

-- a thinned operation of a legal set is named in its segment
pub legal_at : (s : List Operation) (q : Id) (o : Operation) → is_legal s ≡ true → get s q ≡ Some o → is_full o ≡ false → is_past s o ≡ true
legal_at s q o h g n = or_past (is_full o) (is_past s o) (all_at (λ o. is_full o || is_past s o) s q o h g) n

pub legal_from : (s : List Operation) → rises s ≡ true → ((o : Operation) → get s o.id ≡ Some o → is_full o ≡ false → is_past s o ≡ true)
    → is_legal s ≡ true
legal_from s h each = all_from (λ o. is_full o || is_past s o) s h (λ o g. full_or (is_full o) (is_past s o) (each o g))

-- ---- the union

replaced_by : Segment → Id → Operation → Bool
replaced_by seg id p = in_segment seg p && names p id

still_put : (seg : Segment) (id : Id) (o : Operation) (ops : List Operation) → is_replaced ops seg id ≡ true
    → is_replaced (put o ops) seg id ≡ true
still_put seg id o [] h = absurd (false≢true h)
still_put seg id o (x ∷ ops) h =
    elim (id_cmp o.id x.id) as (λ r. is_replaced (by_order r (o ∷ x ∷ ops) (meet x o ∷ ops) (x ∷ put o ops)) seg id ≡ true) [
      | Less ↦ or_right (in_segment seg o && names o id) _ h
      | Equal ↦ h
      | Greater ↦ elim (or_cases (in_segment seg x && names x id) (is_replaced ops seg id) h) [
        | inl e ↦ or_left _ _ e
        | inr e ↦ or_right _ _ (still_put seg id o ops e)
      ]
    ]

-- what is named in a set is named in its union with another
pub still_left : (seg : Segment) (id : Id) (a b : List Operation) → is_replaced a seg id ≡ true → is_replaced (join a b) seg id ≡ true
still_left seg id a [] h = h
still_left seg id a (o ∷ b) h = still_put seg id o (join a b) (still_left seg id a b h)

-- the union of two legal sets that agree is legal
pub join_legal : (a b : List Operation) → rises a ≡ true → rises b ≡ true → is_legal a ≡ true → is_legal b ≡ true → AgreeAtAll a b
    → is_legal (join a b) ≡ true
join_legal a b ha hb la lb same =
    legal_from (join a b) (rises-join a b ha) (λ o g n. by o (get a o.id) refl (get b o.id) refl (sym (get-join a b o.id ha hb) ∙ g) n)
  where
    left : (x : Operation) → is_past a x ≡ true → is_past (join a b) x ≡ true
    left x h = still_left x.segment x.id a b h

    right : (y : Operation) → is_past b y ≡ true → is_past (join a b) y ≡ true
    right y h = ap (λ s. is_past s y) (join_comm a b ha hb same) ∙ still_left y.segment y.id b a h

    both : (q : Id) (x y : Operation) → get a q ≡ Some x → get b q ≡ Some y → (is_full x ≡ false) ⊎ (is_full y ≡ false)
        → is_past (join a b) (meet x y) ≡ true
    both q x y gx gy (inl n) = left x (legal_at a q x la gx n)
    both q x y gx gy (inr n) = ap (is_past (join a b)) ((same q x y gx gy).bares) ∙ right y (legal_at b q y lb gy n)

    by : (o : Operation) (m : Option Operation) → get a o.id ≡ m → (k : Option Operation) → get b o.id ≡ k → met m k ≡ Some o
        → is_full o ≡ false → is_past (join a b) o ≡ true
    by o None e None f g n = cc g
    by o None e (Some y) f g n = right o (legal_at b o.id o lb (f ∙ g) n)
    by o (Some x) e None f g n = left o (legal_at a o.id o la (e ∙ g) n)
    by o (Some x) e (Some y) f g n =
        let is : meet x y ≡ o = cc g in
        ap (is_past (join a b)) (sym is) ∙ both o.id x y e f (thinned_meets x.text y.text (ap is_full is ∙ n))

full-put : (o : Operation) (ops : List Operation) → is_full o ≡ true → all_full ops ≡ true → all_full (put o ops) ≡ true
full-put o [] p h = and_from (is_full o) true p refl
full-put o (x ∷ ops) p h =
    let q = and_parts (is_full x) (all_full ops) h in
    elim (id_cmp o.id x.id) as (λ r. all_full (by_order r (o ∷ x ∷ ops) (meet x o ∷ ops) (x ∷ put o ops)) ≡ true) [
      | Less ↦ and_from _ _ p h
      | Equal ↦ and_from _ _ (full_meets x.text o.text q.0 p) q.1
      | Greater ↦ and_from _ _ q.0 (full-put o ops p q.1)
    ]

pub full-join : (a b : List Operation) → all_full a ≡ true → all_full b ≡ true → all_full (join a b) ≡ true
full-join a [] h g = h
full-join a (o ∷ b) h g = let q = and_parts (is_full o) (all_full b) g in full-put o (join a b) q.0 (full-join a b h q.1)

-- a new full operation
pub put_legal : (a : List Operation) (o : Operation) → rises a ≡ true → is_legal a ≡ true → is_full o ≡ true → get a o.id ≡ None
    → is_legal (put o a) ≡ true
put_legal a o ha la f new =
    join_legal a (o ∷ []) ha refl la (and_from _ _ (or_left (is_full o) (is_past (o ∷ []) o) f) refl) (λ q x y gx gy.
    get_cases q o [] y gy (λ e _. cc (sym new ∙ ap (get a) (sym e) ∙ gx)) (λ g. cc g))

-- a set without thinned operations is legal
pub full_legal : (s ops : List Operation) → all_full ops ≡ true → list_all (λ o. is_full o || is_past s o) ops ≡ true
full_legal s [] h = refl
full_legal s (o ∷ ops) h =
    let q = and_parts (is_full o) (all_full ops) h in and_from _ _ (or_left (is_full o) (is_past s o) q.0) (full_legal s ops q.1)

-- ---- thinning

-- thinning changes nothing of an operation but its text
pub bare_thinned : (s : List Operation) (o : Operation) → bare (thinned_in s o) ≡ bare o
bare_thinned s o = elim (is_past s o) as (λ b. bare (cond b (bare o) o) ≡ bare o) [ true ↦ refl | false ↦ refl ]

skeleton_map : (s ops : List Operation) → skeleton (map (thinned_in s) ops) ≡ skeleton ops
skeleton_map s [] = refl
skeleton_map s (o ∷ ops) = λ i. bare_thinned s o i ∷ skeleton_map s ops i

-- thinning keeps the skeleton
pub skeleton_thin : (s : List Operation) → skeleton (thin s) ≡ skeleton s
skeleton_thin s = skeleton_map s s

-- the same are past
past_thin : (s : List Operation) (o : Operation) → is_past (thin s) (thinned_in s o) ≡ is_past s o
past_thin s o = past_same (thin s) s (skeleton_thin s) (thinned_in s o) ∙ ap (is_past s) (bare_thinned s o)

-- a legal set is still legal when it is thinned
pub thin_legal : (s : List Operation) → is_legal s ≡ true → is_legal (thin s) ≡ true
thin_legal s h = each s h
  where
    one : (o : Operation) (b : Bool) → is_past s o ≡ b → (is_full o || b) ≡ true → (is_full (cond b (bare o) o) || b) ≡ true
    one o true e g = refl
    one o false e g = g

    each : (ops : List Operation) → list_all (λ o. is_full o || is_past s o) ops ≡ true
        → list_all (λ o. is_full o || is_past (thin s) o) (map (thinned_in s) ops) ≡ true
    each [] h = refl
    each (o ∷ ops) h =
        let q = and_parts (is_full o || is_past s o) (list_all (λ o. is_full o || is_past s o) ops) h in
        and_from _ _ (ap (λ b. is_full (thinned_in s o) || b) (past_thin s o) ∙ one o (is_past s o) refl q.0) (each ops q.1)

-- thinning twice is thinning once
pub thin_again : (s : List Operation) → thin (thin s) ≡ thin s
thin_again s = each s
  where
    one : (o : Operation) (b d : Bool) → d ≡ b → cond d (bare (cond b (bare o) o)) (cond b (bare o) o) ≡ cond b (bare o) o
    one o true true e = refl
    one o false false e = refl
    one o true false e = refl
    one o false true e = cc

    each : (ops : List Operation) → map (thinned_in (thin s)) (map (thinned_in s) ops) ≡ map (thinned_in s) ops
    each [] = refl
    each (o ∷ ops) = λ i. one o (is_past s o) (is_past (thin s) (thinned_in s o)) (past_thin s o) i ∷ each ops i

-- ---- what is shown is full

-- what a legal set shows has its text
pub shown_full : (s : List Operation) (seg : Segment) → is_legal s ≡ true → all_full (shown s seg) ≡ true
shown_full s seg h = all_of_filter (λ o. is_full o || is_past s o) (is_shown s seg) is_full one s h
  where
    one : (o : Operation) → (is_full o || is_past s o) ≡ true → is_shown s seg o ≡ true → is_full o ≡ true
    one o l g =
        let p = and_parts (in_segment seg o) (not (is_replaced s seg o.id)) g in
        let past : is_past s o ≡ false = (λ j. is_replaced s (same_segment-is o.segment seg p.0 j) o.id) ∙ not-true _ p.1 in
        elim (or_cases (is_full o) (is_past s o) l) [ inl f ↦ f | inr f ↦ absurd (false≢true (sym past ∙ f)) ]

-- of full operations the last is full
pub full_last : (ops : List Operation) (o : Operation) → all_full ops ≡ true → last ops ≡ Some o → is_full o ≡ true
full_last [] o h e = absurd (cc)
full_last (p ∷ []) o h e = let is : p ≡ o = cc in ap is_full (sym is) ∙ (and_parts (is_full p) true h).0
full_last (p ∷ q ∷ rest) o h e = full_last (q ∷ rest) o (and_parts (is_full p) (all_full (q ∷ rest)) h).1 e

-- an operation that is picked is the last that is shown
pub pick_full : (s : List Operation) (seg : Segment) (o : Operation) → is_legal s ≡ true → pick s seg ≡ Greatest o → is_full o ≡ true
pick_full s seg o h e = by (wants_chapter_line s seg) e
  where
    some : (x : Option Operation) → greatest x ≡ Greatest o → x ≡ Some o
    some None e = cc e
    some (Some p) e = cc e

    by : (b : Bool) → cond b (Line seg.key.chapter) (greatest (last (shown s seg))) ≡ Greatest o → is_full o ≡ true
    by true e = cc e
    by false e = full_last (shown s seg) o (shown_full s seg h) (some (last (shown s seg)) e)

-- ---- deltas

-- what another copy lacks of a legal set is legal
pub delta_legal : (s : List Operation) (knows : Id → Bool) → rises s ≡ true → is_legal s ≡ true → is_legal (delta s knows) ≡ true
delta_legal s knows h l = legal_from (delta s knows) (rises-filter (is_sent s knows) s h) one
  where
    -- a thinned operation that is sent takes its segment along
    whole : (o : Operation) → get s o.id ≡ Some o → is_full o ≡ false → is_sent s knows o ≡ true → lacks_thinned s knows o.segment ≡ true
    whole o g n sent = elim (or_cases (is_lacked knows o) (lacks_thinned s knows o.segment) sent) [
      | inl e ↦ any_from (λ p. in_segment o.segment p && (is_thinned p && is_lacked knows p)) s o.id o g
          (and_from _ _ (same_segment-refl o.segment) (and_from _ _ (ap not n) e))
      | inr e ↦ e
    ]

    one : (o : Operation) → get (delta s knows) o.id ≡ Some o → is_full o ≡ false → is_past (delta s knows) o ≡ true
    one o g n =
        let held = filter_within (is_sent s knows) s h o.id o g in
        let sent = filter_passes (is_sent s knows) s o.id o g in
        let w = whole o held n sent in
        let namer = any_held (λ p. in_segment o.segment p && names p o.id) s h (legal_at s o.id o l held n) in
        let i = same_segment-is namer.one.segment o.segment
        (and_parts (in_segment o.segment namer.one) (names namer.one o.id) namer.passes).0 in
        let kept : is_sent s knows namer.one ≡ true = or_right (is_lacked knows namer.one) _ ((λ j. lacks_thinned s knows (i j)) ∙ w) in
        any_from (λ p. in_segment o.segment p && names p o.id) (delta s knows) namer.one.id namer.one
        (filter_kept (is_sent s knows) s namer.one.id namer.one namer.held kept) namer.passes

-- of a full set, none of a segment is lacked thinned
none_thinned : (at : Operation → Bool) (knows : Id → Bool) (xs : List Operation) → all_full xs ≡ true
    → list_any (λ p. at p && (is_thinned p && is_lacked knows p)) xs ≡ false
none_thinned at knows [] f = refl
none_thinned at knows (x ∷ xs) f =
    let p = and_parts (is_full x) (all_full xs) f in
    (λ i. (at x && (not (p.0 i) && is_lacked knows x)) || none_thinned at knows xs p.1 i) ∙ ap (λ b. b || false) (and_false (at x))
  where
    and_false : (b : Bool) → (b && false) ≡ false
    and_false true = refl
    and_false false = refl

-- so what is sent is what is lacked alone
pub full_delta : (s : List Operation) (knows : Id → Bool) → all_full s ≡ true → delta s knows ≡ filter (is_lacked knows) s
full_delta s knows f = λ i. filter (λ o. lacked o i) s
  where
    or_false : (b : Bool) → (b || false) ≡ b
    or_false true = refl
    or_false false = refl

    lacked : (o : Operation) → is_sent s knows o ≡ is_lacked knows o
    lacked o = ap (λ b. is_lacked knows o || b) (none_thinned (in_segment o.segment) knows s f) ∙ or_false (is_lacked knows o)
