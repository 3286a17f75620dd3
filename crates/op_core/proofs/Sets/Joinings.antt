-- Sets joined in some order, grouping and repetition hold what one of them holds.
use Rattle.std.proofs.Common.{◌≡◌, Bool, true, false, ℕ, zero, suc, ◌<◌, List, [], ◌∷◌, length, get_or, Option, Some, None, Result, Ok, Err, ◌⊎◌, inl, inr, arith, refl, sym, ap, subst, ◌∙◌, is_ok}
use Rattle.std.specs.List.{Contains, AllByRecursion}
use Rattle.std.specs.Option.{is_some}
use Rattle.std.proofs.lemmas.Bool.{true≢false}
use Rattle.op_core.specs.Ids.{Id}
use Rattle.op_core.specs.Ops.{Operation, is_full, bare, agree}
use Rattle.op_core.specs.Sets.{IsOpSet, get, meet_text, meet, met, join, clash}
use Rattle.op_core.specs.Thinned.{StandsIn}
use Rattle.op_core.specs.Laws.{Joining, AreSets, IsInOne, SameOperations, joined_or_clash, with_both, union_by, ThinnedAgree, RefusedAlike}
use Rattle.op_core.specs.Laws.Joining.{Part, Joined}
use Rattle.op_core.specs.Equal.{same_parts}
use Rattle.op_core.proofs.Sets.Union.{IsOpSet-join, get-join, same_gets, agree_from_no_clash, held_itself}
use Rattle.op_core.proofs.Sets.Clashes.{get_cases, get_id, clash_is}
use Rattle.op_core.proofs.Sets.Agreement.{Agree, agree-from, agree_itself, kept_text, meet_full, text_comm}

-- an operation that is held under an id is in the set
pub Contains-get : (xs : List Operation) (q : Id) (o : Operation) → get xs q ≡ Some o → Contains xs o
Contains-get [] q o g = cc g
Contains-get (x ∷ xs) q o g =
    get_cases q x xs o g (λ e f. (0, omega arith, f)) (λ g. let r = Contains-get xs q o g in (suc r.0, omega (arith, r.1), r.2))

-- an operation of a set is held under its id
pub get-Contains : (xs : List Operation) (o : Operation) → IsOpSet xs → Contains xs o → get xs o.id ≡ Some o
get-Contains xs o s h = subst (λ (p : Operation). get xs p.id ≡ Some p) h.2 (each xs h.0 h.1 (held_itself xs s.rising))
  where
    each : (ys : List Operation) (k : ℕ) → k < length ys → AllByRecursion (λ p. get xs p.id ≡ Some p) ys
        → get xs (get_or ys k o).id ≡ Some (get_or ys k o)
    each [] k l a = absurd (omega arith)
    each (y ∷ ys) zero l a = a.0
    each (y ∷ ys) (suc k) l a = each ys k (omega arith) a.1

-- a union of two ways is that of what the two make, which do not clash
record Made (l r : Joining) (a : List Operation) : Type 0 where
  left : List Operation
  right : List Operation
  left_is : union_by l ≡ Ok left
  right_is : union_by r ≡ Ok right
  agree : clash left right ≡ None
  union : a ≡ join left right

made : (l r : Joining) (a : List Operation) → union_by (Joined l r) ≡ Ok a → Made l r a
made l r a h = by (union_by l) refl (union_by r) refl h
  where
    two : (x y : List Operation) → union_by l ≡ Ok x → union_by r ≡ Ok y → (c : Option Id) → clash x y ≡ c → joined_or_clash x y c ≡ Ok a
        → Made l r a
    two x y ex ey None e h = record { left = x; right = y; left_is = ex; right_is = ey; agree = e; union = cc (sym h) }
    two x y ex ey (Some id) e h = cc h

    by : (x : Result (List Operation) Id) → union_by l ≡ x → (y : Result (List Operation) Id) → union_by r ≡ y
        → with_both x y (λ a b. joined_or_clash a b (clash a b)) ≡ Ok a → Made l r a
    by (Ok x) ex (Ok y) ey h = two x y ex ey (clash x y) refl h
    by (Ok x) ex (Err id) ey h = cc h
    by (Err id) ex y ey h = cc h

pub IsOpSet-union_by : (way : Joining) (a : List Operation) → AreSets way → union_by way ≡ Ok a → IsOpSet a
IsOpSet-union_by (Part set) a s h = let e : set ≡ a = cc h in subst IsOpSet e s
IsOpSet-union_by (Joined l r) a s h =
    let m = made l r a h in
    subst IsOpSet (sym m.union)
    (IsOpSet-join m.left m.right (IsOpSet-union_by l m.left s.0 m.left_is) (IsOpSet-union_by r m.right s.1 m.right_is))

-- ---- what stays of two operations that agree

-- a thinned operation is equal to itself without its text
pub thinned_is : (o : Operation) → is_full o ≡ false → bare o ≡ o
thinned_is o h = same_parts (bare o) o refl (by o.text h)
  where
    by : (text : Option (List ℕ)) → is_some text ≡ false → None ≡ text
    by None h = refl
    by (Some t) h = cc h

-- operations of which each stands in for the other are one
pub stand_in_both : (o p : Operation) → StandsIn o p → StandsIn p o → o ≡ p
stand_in_both o p h g = by (is_full o) refl (is_full p) refl
  where
    by : (a : Bool) → is_full o ≡ a → (b : Bool) → is_full p ≡ b → o ≡ p
    by true e b f = h.same e
    by false e true f = sym (g.same f)
    by false e false f = sym (thinned_is o e) ∙ h.bares ∙ thinned_is p f

-- one of the two stays
meet_is_one : (p z : Operation) → Agree p z → (meet p z ≡ p) ⊎ (meet p z ≡ z)
meet_is_one p z h = by p.text refl z.text refl
  where
    by : (a : Option (List ℕ)) → p.text ≡ a → (b : Option (List ℕ)) → z.text ≡ b → (meet p z ≡ p) ⊎ (meet p z ≡ z)
    by None e b f = inl (same_parts (meet p z) p refl (ap (λ (t : Option (List ℕ)). meet_text t z.text) e ∙ sym e))
    by (Some a) e None f = inr (same_parts (meet p z) z h.bares ((λ i. meet_text (e i) (f i)) ∙ sym f))
    by (Some a) e (Some b) f = inl (same_parts (meet p z) p refl ((λ i. meet_text (e i) (f i)) ∙ sym e))

-- what stays stands in for either
meet_stands : (p z : Operation) → Agree p z → StandsIn (meet p z) p × StandsIn (meet p z) z
meet_stands p z h = (
  record {
    bares = refl;
    same = λ f. same_parts (meet p z) p refl
        (kept_text p.text z.text (meet_full p.text z.text f).1);
  },
  record {
    bares = h.bares;
    same = λ f. same_parts (meet p z) z h.bares (later f);
  },
)
  where
    later : is_some (meet_text p.text z.text) ≡ true → meet_text p.text z.text ≡ z.text
    later f = text_comm p.text z.text h.texts ∙ kept_text z.text p.text (meet_full p.text z.text f).0

-- what stands in for what stands in for an operation stands in for it
stands_through : (o p q : Operation) → StandsIn o p → StandsIn p q → StandsIn o q
stands_through o p q h g = record { bares = h.bares ∙ g.bares; same = λ f. h.same f ∙ g.same (ap is_full (sym (h.same f)) ∙ f) }

-- ---- what a union holds

-- it is in one of the sets
pub held_from_one : (way : Joining) (a : List Operation) (q : Id) (o : Operation) → AreSets way → union_by way ≡ Ok a → get a q ≡ Some o
    → IsInOne way o
held_from_one (Part set) a q o s h g =
    let e : a ≡ set = cc (sym h) in Contains-get set q o (ap (λ (xs : List Operation). get xs q) (sym e) ∙ g)
held_from_one (Joined l r) a q o s h g =
    let m = made l r a h in
    let sl = IsOpSet-union_by l m.left s.0 m.left_is in
    let sr = IsOpSet-union_by r m.right s.1 m.right_is in
    either (get m.left q) (get m.right q) (λ p. held_from_one l m.left q p s.0 m.left_is) (λ p. held_from_one r m.right q p s.1 m.right_is)
    (agree_from_no_clash m.left m.right m.agree q)
    (sym (get-join m.left m.right q sl.rising sr.rising) ∙ ap (λ (xs : List Operation). get xs q) (sym m.union) ∙ g)
  where
    one : (p z : Operation) → IsInOne l p → IsInOne r z → meet p z ≡ o → (meet p z ≡ p) ⊎ (meet p z ≡ z) → IsInOne l o ⊎ IsInOne r o
    one p z i j e (inl is) = inl (subst (IsInOne l) (sym is ∙ e) i)
    one p z i j e (inr is) = inr (subst (IsInOne r) (sym is ∙ e) j)

    either : (x y : Option Operation) → ((p : Operation) → x ≡ Some p → IsInOne l p) → ((p : Operation) → y ≡ Some p → IsInOne r p)
        → ((p z : Operation) → x ≡ Some p → y ≡ Some z → Agree p z) → met x y ≡ Some o → IsInOne l o ⊎ IsInOne r o
    either None y f g k e = inr (g o e)
    either (Some p) None f g k e = inl (f o e)
    either (Some p) (Some z) f g k e = one p z (f p refl) (g z refl) (cc e) (meet_is_one p z (k p z refl refl))

-- the operation that a set holds under the id of another one, and that stands in for it
pub record HeldFor (a : List Operation) (o : Operation) : Type 0 where
  pub one : Operation
  pub held : get a o.id ≡ Some one
  pub stands : StandsIn one o

-- for what is in one of the sets, the union holds an operation that stands in for it
pub one_is_held : (way : Joining) (a : List Operation) (o : Operation) → AreSets way → union_by way ≡ Ok a → IsInOne way o → HeldFor a o
one_is_held (Part set) a o s h i = let e : set ≡ a = cc h in record {
  one = o;
  held = ap (λ (xs : List Operation). get xs o.id) (sym e) ∙ get-Contains set o s i;
  stands = record { bares = refl; same = λ f. refl };
}
one_is_held (Joined l r) a o s h i =
    let m = made l r a h in
    let sl = IsOpSet-union_by l m.left s.0 m.left_is in
    let sr = IsOpSet-union_by r m.right s.1 m.right_is in
    either (get m.left o.id) refl (get m.right o.id) refl (one_is_held l m.left o s.0 m.left_is) (one_is_held r m.right o s.1 m.right_is)
    (agree_from_no_clash m.left m.right m.agree o.id)
    (ap (λ (xs : List Operation). get xs o.id) m.union ∙ get-join m.left m.right o.id sl.rising sr.rising) i
  where
    first : (p : Operation) (y : Option Operation) → ((z : Operation) → y ≡ Some z → Agree p z) → StandsIn p o → get a o.id ≡ met (Some p) y
        → HeldFor a o
    first p None k st g = record { one = p; held = g; stands = st }
    first p (Some z) k st g = record { one = meet p z; held = g; stands = stands_through (meet p z) p o (meet_stands p z (k z refl)).0 st }

    later : (x : Option Operation) (z : Operation) → ((p : Operation) → x ≡ Some p → Agree p z) → StandsIn z o → get a o.id ≡ met x (Some z)
        → HeldFor a o
    later None z k st g = record { one = z; held = g; stands = st }
    later (Some p) z k st g = record { one = meet p z; held = g; stands = stands_through (meet p z) z o (meet_stands p z (k p refl)).1 st }

    either : (x : Option Operation) → get (made l r a h).left o.id ≡ x → (y : Option Operation) → get (made l r a h).right o.id ≡ y
        → (IsInOne l o → HeldFor (made l r a h).left o) → (IsInOne r o → HeldFor (made l r a h).right o)
        → ((p z : Operation) → get (made l r a h).left o.id ≡ Some p → get (made l r a h).right o.id ≡ Some z → Agree p z)
        → get a o.id ≡ met (get (made l r a h).left o.id) (get (made l r a h).right o.id) → IsInOne l o ⊎ IsInOne r o → HeldFor a o
    either x ex y ey f g k at (inl i) =
        let held = f i in
        first held.one (get (made l r a h).right o.id) (λ z e. k held.one z held.held e) held.stands
        (at ∙ ap (λ (m : Option Operation). met m (get (made l r a h).right o.id)) held.held)
    either x ex y ey f g k at (inr i) =
        let held = g i in
        later (get (made l r a h).left o.id) held.one (λ p e. k p held.one e held.held) held.stands
        (at ∙ ap (met (get (made l r a h).left o.id)) held.held)

-- joinings of the same operations make one union
pub same_unions : (one other : Joining) (a b : List Operation) → AreSets one → AreSets other → SameOperations one other
    → union_by one ≡ Ok a → union_by other ≡ Ok b → a ≡ b
same_unions one other a b s t same ha hb =
    same_gets a b (IsOpSet-union_by one a s ha).rising (IsOpSet-union_by other b t hb).rising (λ q. by q (get a q) refl (get b q) refl)
  where
    crossed : (w v : Joining) (x y : List Operation) → AreSets w → AreSets v → union_by w ≡ Ok x → union_by v ≡ Ok y
        → ((o : Operation) → IsInOne w o → IsInOne v o) → (q : Id) (o : Operation) → get x q ≡ Some o → HeldFor y o
    crossed w v x y s t hx hy f q o g = one_is_held v y o t hy (f o (held_from_one w x q o s hx g))

    held_at : (y : List Operation) (q : Id) (o : Operation) → o.id ≡ q → (h : HeldFor y o) → get y q ≡ Some h.one
    held_at y q o e h = ap (get y) (sym e) ∙ h.held

    by : (q : Id) (x : Option Operation) → get a q ≡ x → (y : Option Operation) → get b q ≡ y → get a q ≡ get b q
    by q None e None f = e ∙ sym f
    by q (Some o) e None f =
        let there = crossed one other a b s t ha hb same.there q o e in
        cc (sym f ∙ held_at b q o (get_id a q o e) there)
    by q None e (Some p) f =
        let here = crossed other one b a t s hb ha same.back q p f in
        cc (sym e ∙ held_at a q p (get_id b q p f) here)
    by q (Some o) e (Some p) f =
        let there = crossed one other a b s t ha hb same.there q o e in
        let here = crossed other one b a t s hb ha same.back q p f in
        let is_there : there.one ≡ p = cc (sym (held_at b q o (get_id a q o e) there) ∙ f) in
        let is_here : here.one ≡ o = cc (sym (held_at a q p (get_id b q p f) here) ∙ e) in
        e
        ∙ ap Some (stand_in_both o p (subst (λ (z : Operation). StandsIn z p) is_here here.stands)
        (subst (λ (z : Operation). StandsIn z o) is_there there.stands))
        ∙ sym f

-- ---- refused alike

-- in a union, operations of one id agree, where those of thinned ones do
agree_in_union : (way : Joining) (a : List Operation) (o p : Operation) → AreSets way → union_by way ≡ Ok a → ThinnedAgree way
    → IsInOne way o → IsInOne way p → o.id ≡ p.id → agree o p ≡ true
agree_in_union way a o p s h k i j same =
    let there = one_is_held way a o s h i in
    let here = one_is_held way a p s h j in
    let is : there.one ≡ here.one = cc (sym there.held ∙ ap (get a) same ∙ here.held) in
    by there.one there.held there.stands (subst (λ (z : Operation). StandsIn z p) (sym is) here.stands) (is_full there.one) refl
  where
    by : (z : Operation) → get a o.id ≡ Some z → StandsIn z o → StandsIn z p → (b : Bool) → is_full z ≡ b → agree o p ≡ true
    by z g f e true full = subst (λ (x : Operation). agree o x ≡ true) (sym (f.same full) ∙ e.same full) (agree-from o o (agree_itself o))
    by z g f e false thinned =
        let name : z.id ≡ o.id = get_id a o.id z g in
        k z o p (held_from_one way a o.id z s h g) i j thinned (sym name) (sym same ∙ sym name)

-- sets of which any two operations of one id agree are joined
joined_if_agree : (way : Joining) → AreSets way → ((o p : Operation) → IsInOne way o → IsInOne way p → o.id ≡ p.id → agree o p ≡ true)
    → (a : List Operation) × (union_by way ≡ Ok a)
joined_if_agree (Part set) s one = (set, refl)
joined_if_agree (Joined l r) s one =
    let x = joined_if_agree l s.0 (λ o p i j. one o p (inl i) (inl j)) in
    let y = joined_if_agree r s.1 (λ o p i j. one o p (inr i) (inr j)) in
    by x.0 y.0 x.1 y.1 (clash x.0 y.0) refl
  where
    by : (x y : List Operation) → union_by l ≡ Ok x → union_by r ≡ Ok y → (c : Option Id) → clash x y ≡ c
        → (a : List Operation) × (union_by (Joined l r) ≡ Ok a)
    by x y ex ey None e = (join x y, (λ i. with_both (ex i) (ey i) (λ a b. joined_or_clash a b (clash a b))) ∙ ap (joined_or_clash x y) e)
    by x y ex ey (Some id) e =
        let c = clash_is x y id (IsOpSet-union_by r y s.1 ey).rising e in
        let same = get_id x id c.one c.one_held ∙ sym (get_id y id c.other c.other_held) in
        let agrees = one c.one c.other (inl (held_from_one l x id c.one s.0 ex c.one_held))
        (inr (held_from_one r y id c.other s.1 ey c.other_held)) same in
        absurd (true≢false (sym agrees ∙ c.differ))

-- joinings of the same operations are refused alike
pub refused_alike : RefusedAlike
refused_alike one other s t same k = by (union_by one) refl (union_by other) refl
  where
    turned : ThinnedAgree other
    turned z o p i j l f e d = k z o p (same.back z i) (same.back o j) (same.back p l) f e d

    made_there : (w v : Joining) (a : List Operation) → AreSets w → AreSets v → ThinnedAgree w
        → ((o : Operation) → IsInOne v o → IsInOne w o) → union_by w ≡ Ok a → (b : List Operation) × (union_by v ≡ Ok b)
    made_there w v a s t k f h = joined_if_agree v t (λ o p i j. agree_in_union w a o p s h k (f o i) (f p j))

    by : (x : Result (List Operation) Id) → union_by one ≡ x → (y : Result (List Operation) Id) → union_by other ≡ y
        → is_ok (union_by one) ≡ is_ok (union_by other)
    by (Ok a) ex y ey = let b = made_there one other a s t k same.back ex in ap is_ok ex ∙ sym (ap is_ok b.1)
    by (Err id) ex (Ok b) ey = let a = made_there other one b t s turned same.there ey in ap is_ok a.1 ∙ sym (ap is_ok ey)
    by (Err id) ex (Err other) ey = ap is_ok ex ∙ sym (ap is_ok ey)
