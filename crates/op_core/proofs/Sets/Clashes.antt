-- The clash of two sets is the same either way.
use Rattle.std.proofs.Common.{◌≡◌, Bool, true, false, not, cond, List, [], ◌∷◌, Option, Some, None, refl, sym, ap, subst, ◌∙◌}
use Rattle.std.specs.declared.cmp.Ordering.{Ordering}
use Rattle.std.specs.declared.cmp.Ordering.TheVariants.{Less, Equal, Greater}
use Rattle.std.specs.List.{list_all, find}
use Rattle.std.specs.Option.{option_map}
use Rattle.std.proofs.lemmas.Bool.{and_parts, cond-false, cond-true, false≢true, true≢false, not-true, not-false}
use Rattle.op_core.specs.Ids.{Id, id_cmp, same_id, id_below}
use Rattle.op_core.specs.Ops.{Operation, agree}
use Rattle.op_core.specs.Sets.{rises, get, differs, clash}
use Rattle.op_core.specs.Laws.{AgreeAt, ClashAt}
use Rattle.op_core.proofs.IdOrders.Rising.{id_exact}
use Rattle.op_core.specs.Equal.{id_from_same, same_id-refl}
use Rattle.op_core.proofs.Sets.Union.{AllAbove, above_trans, rises_parts, get_above, apart_below, apart_above, less_below, greater_below}
use Rattle.op_core.proofs.Sets.Agreement.{agree-is, agree-from, agree_turned}

-- an operation that differs from what held holds under its id
abbrev Differs : List Operation → Operation → Bool
Differs held o = differs (get held o.id) o

-- what is held under an id is the first operation, or is held by the others
pub get_cases : {R : Type 0} (q : Id) (o : Operation) (ops : List Operation) (z : Operation) → get (o ∷ ops) q ≡ Some z
    → (q ≡ o.id → o ≡ z → R) → (get ops q ≡ Some z → R) → R
get_cases {R} q o ops z g yes' no' = by (same_id q o.id) refl g
  where
    by : (b : Bool) → same_id q o.id ≡ b → cond b (Some o) (get ops q) ≡ Some z → R
    by true e g = yes' (id_from_same q o.id e) (cc g)
    by false e g = no' g

-- what is held under an id has that id
pub get_id : (ops : List Operation) (q : Id) (z : Operation) → get ops q ≡ Some z → z.id ≡ q
get_id [] q z g = cc g
get_id (o ∷ ops) q z g = get_cases q o ops z g (λ e f. ap (λ (p : Operation). p.id) (sym f) ∙ sym e) (λ g. get_id ops q z g)

pub above_of_get : (i : Id) (ops : List Operation) (q : Id) (z : Operation) → AllAbove i ops → get ops q ≡ Some z → id_below i q ≡ true
above_of_get i [] q z h g = cc g
above_of_get i (o ∷ ops) q z h g =
    let p = and_parts (id_below i o.id) (list_all (λ p. id_below i p.id) ops) h in
    get_cases q o ops z g (λ e f. ap (id_below i) e ∙ p.0) (λ g. above_of_get i ops q z p.1 g)

record FirstIs (P : Operation → Bool) (ops : List Operation) (o : Operation) : Type 0 where
  held : get ops o.id ≡ Some o
  passes : P o ≡ true
  before : (q : Id) (z : Operation) → get ops q ≡ Some z → id_below q o.id ≡ true → P z ≡ false

none_passes : (P : Operation → Bool) (ops : List Operation) → find P ops ≡ None → (q : Id) (z : Operation) → get ops q ≡ Some z
    → P z ≡ false
none_passes P [] n q z g = cc g
none_passes P (o ∷ ops) n q z g = by (λ n g. none_passes P ops n q z g) (P o) refl n
  where
    by : (find P ops ≡ None → get ops q ≡ Some z → P z ≡ false) → (b : Bool) → P o ≡ b → cond b (Some o) (find P ops) ≡ None → P z ≡ false
    by rest true e n = cc n
    by rest false e n = get_cases q o ops z g (λ _ f. ap P (sym f) ∙ e) (λ g. rest n g)

first_is : (P : Operation → Bool) (ops : List Operation) (o : Operation) → rises ops ≡ true → find P ops ≡ Some o → FirstIs P ops o
first_is P [] o h f = cc f
first_is P (x ∷ ops) o h f = by (λ f. first_is P ops o (rises_parts x ops h).1 f) (P x) refl f
  where
    above : AllAbove x.id ops
    above = (rises_parts x ops h).0

    here : P x ≡ true → x ≡ o → FirstIs P (x ∷ ops) o
    here e f = subst (FirstIs P (x ∷ ops)) f (record {
      held = cond-true (same_id x.id x.id) (Some x) (get ops x.id) (same_id-refl x.id);
      passes = e;
      before = λ q z g l. cc
          (sym (cond-false (same_id q x.id) (Some x) (get ops q) (apart_below q x.id l) ∙ get_above q ops (above_trans q x.id ops l above))
          ∙ g);
    })

    after : P x ≡ false → FirstIs P ops o → FirstIs P (x ∷ ops) o
    after e r = record {
      held = cond-false (same_id o.id x.id) (Some x) (get ops o.id) (apart_above o.id x.id (above_of_get x.id ops o.id o above r.held))
          ∙ r.held;
      passes = r.passes;
      before = λ q z g l. get_cases q x ops z g (λ _ f. ap P (sym f) ∙ e) (λ g. r.before q z g l);
    }

    by : (find P ops ≡ Some o → FirstIs P ops o) → (b : Bool) → P x ≡ b → cond b (Some x) (find P ops) ≡ Some o → FirstIs P (x ∷ ops) o
    by rest true e f = here e (cc f)
    by rest false e f = after e (rest f)

-- an operation of ys that differs is met by one of xs that does
record Met (xs ys : List Operation) (o : Operation) : Type 0 where
  other : Operation
  held : get xs o.id ≡ Some other
  differs' : Differs ys other ≡ true

met : (xs ys : List Operation) (o : Operation) → get ys o.id ≡ Some o → Differs xs o ≡ true → Met xs ys o
met xs ys o g d = by (get xs o.id) refl d
  where
    by : (r : Option Operation) → get xs o.id ≡ r → differs r o ≡ true → Met xs ys o
    by None e d = absurd (false≢true d)
    by (Some x) e d =
        let at : get ys x.id ≡ Some o = ap (get ys) (get_id xs o.id x e) ∙ g in
        record { other = x; held = e; differs' = ap (λ (r : Option Operation). differs r x) at ∙ back (agree o x) refl }
      where
        back : (b : Bool) → agree o x ≡ b → not b ≡ true
        back true s = absurd (true≢false (sym (agree-from x o (agree_turned o x (agree-is o x s))) ∙ not-true (agree x o) d))
        back false s = refl

-- the first of ys that differs from xs has the id of the first of xs that differs from ys
same_first : (xs ys : List Operation) (o : Operation) → rises xs ≡ true → FirstIs (Differs xs) ys o → (r : Option Operation)
    → find (Differs ys) xs ≡ r → option_map (λ (p : Operation). p.id) r ≡ Some o.id
same_first xs ys o hx f None e =
    let m = met xs ys o f.held f.passes in
    absurd (true≢false (sym m.differs' ∙ none_passes (Differs ys) xs e o.id m.other m.held))
same_first xs ys o hx f (Some x) e = by (id_cmp o.id x.id) refl
  where
    g : FirstIs (Differs ys) xs x
    g = first_is (Differs ys) xs x hx e

    by : (c : Ordering) → id_cmp o.id x.id ≡ c → Some x.id ≡ Some o.id
    by Less c =
        let m = met xs ys o f.held f.passes in absurd (true≢false (sym m.differs' ∙ g.before o.id m.other m.held (less_below o x c)))
    by Equal c = ap Some (sym (id_exact o.id x.id c))
    by Greater c =
        let m = met ys xs x g.held g.passes in absurd (true≢false (sym m.differs' ∙ f.before x.id m.other m.held (greater_below o x c)))

-- two sets clash at one id, whichever comes first
pub clash_comm : (xs ys : List Operation) → rises xs ≡ true → rises ys ≡ true → clash xs ys ≡ clash ys xs
clash_comm xs ys hx hy = by (find (Differs xs) ys) refl (find (Differs ys) xs) refl
  where
    by : (r : Option Operation) → find (Differs xs) ys ≡ r → (s : Option Operation) → find (Differs ys) xs ≡ s
        → option_map (λ (p : Operation). p.id) r ≡ option_map (λ (p : Operation). p.id) s
    by (Some o) e s f = sym (same_first xs ys o hx (first_is (Differs xs) ys o hy e) s f)
    by None e None f = refl
    by None e (Some x) f = same_first ys xs x hy (first_is (Differs ys) xs x hx f) None e

-- an operation that is equal to one of its id
-- the first that differs is a clash
clash_at : (xs ys : List Operation) (o : Operation) → FirstIs (Differs xs) ys o → ClashAt xs ys o.id
clash_at xs ys o f = by (get xs o.id) refl f.passes
  where
    below : (q : Id) → id_below q o.id ≡ true → AgreeAt xs ys q
    below q l u v gu gv =
        let is : v.id ≡ q = get_id ys q v gv in
        let at : get xs v.id ≡ Some u = ap (get xs) is ∙ gu in
        not-false (agree u v) (ap (λ (r : Option Operation). differs r v) (sym at) ∙ f.before q v gv l)

    by : (r : Option Operation) → get xs o.id ≡ r → differs r o ≡ true → ClashAt xs ys o.id
    by None e d = absurd (false≢true d)
    by (Some p) e d = record {
      one = p;
      other = o;
      one_held = e;
      other_held = f.held;
      differ = not-true (agree p o) d;
      below = below;
    }

pub clash_is : (xs ys : List Operation) (id : Id) → rises ys ≡ true → clash xs ys ≡ Some id → ClashAt xs ys id
clash_is xs ys id hy h = by (find (Differs xs) ys) refl h
  where
    by : (r : Option Operation) → find (Differs xs) ys ≡ r → option_map (λ (p : Operation). p.id) r ≡ Some id → ClashAt xs ys id
    by None e h = cc h
    by (Some o) e h = let is : o.id ≡ id = cc h in subst (ClashAt xs ys) is (clash_at xs ys o (first_is (Differs xs) ys o hy e))
