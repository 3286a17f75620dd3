-- A map from names to ranges, with ids added one after another.
use Rattle.std.proofs.Common.{◌≡◌, ℕ, ◌<◌, Bool, true, false, cond, ◌&&◌, ◌||◌, eqb, leb, List, [], ◌∷◌, ◌++◌, Option, Some, None, Result, Ok, Err, Vec, option_map, map, IsTrue, refl, sym, ap, subst, ◌∙◌, append_assoc, arith, inl, inr}
use Rattle.std.proofs.Math.Bool.{and-true, or-false, and-false}
use Rattle.std.specs.List.{list_all, AllByRecursion}
use Rattle.std.specs.Option.{unwrap_or}
use Rattle.std.specs.Ordering.{is_eq}
use Rattle.std.specs.Result.{IfOk}
use Rattle.std.specs.Map.{lookup}
use Rattle.std.specs.BTreeMap.{BTreeMap, get as value_at, is_at}
use Rattle.std.proofs.lemmas.Bool.{and_parts, and_from, lt-ltb, leb-true, eq-eqb, true≢false, cases_lt, or_right}
use Rattle.std.proofs.lemmas.List.{map-append}
use Rattle.std.proofs.lemmas.List.Folds.{list_any-append}
use Rattle.usfm_ref.specs.Books.{same_bytes}
use Rattle.usfm_ref.proofs.Orders.{same_bytes-is, same_bytes-refl}
use Rattle.op_core.specs.Names.{name_cmp}
use Rattle.op_core.specs.Ids.{Id, id_below, ids_rise, same_id, is_number}
use Rattle.op_core.specs.NextIds.{is_among}
use Rattle.op_core.specs.Equal.{id_from_same}
use Rattle.op_core.proofs.IdOrders.NextIds.{below_number}
use Rattle.op_core.proofs.Sets.Union.{apart_below}
use Rattle.bundle_codec.specs.declared.summaries.range.NumberRange.{NumberRange}
use Rattle.bundle_codec.specs.Summaries.{is_range, has_number}
use Rattle.bundle_codec.specs.Loops.SummaryMaking.{with_last, with_each, under, numbers, AddsRun, HoldsRun, AreUnder}
use Rattle.bundle_codec.proofs.Lasts.{AllBelow, last_has, last_ranges}
use Rattle.bundle_codec.proofs.SummaryReads.{range_bounds}
use Rattle.bundle_codec.proofs.Covered.{lies_in, lies_yes, same_tied}

-- ---- one value of the map was written

module _ {A : Type 0} (m n : BTreeMap (List ℕ) (Vec NumberRange A)) (id : Id) (ids rest : List Id)
    (old : Option (Vec NumberRange A)) (w : Vec NumberRange A) where
  holds_run : value_at name_cmp m id.name ≡ old → AddsRun id ids rest (unwrap_or (option_map (λ v. v.items) old) []) w.items
      → ((q : List ℕ) → value_at name_cmp n q ≡ cond (is_eq (name_cmp id.name q)) (Some w) (value_at name_cmp m q))
      → HoldsRun id ids rest m n
  holds_run was made updates = (made.0, λ q. ap (option_map (λ v. v.items)) (updates q) ∙ by q (is_eq (name_cmp id.name q)) refl)
    where
      by : (q : List ℕ) (b : Bool) → is_eq (name_cmp id.name q) ≡ b
          → option_map (λ v. v.items) (cond b (Some w) (value_at name_cmp m q))
          ≡ cond (same_bytes q id.name) (Some (with_each (unwrap_or (under m q) []) (numbers made.0))) (under m q)
      by q true e =
          let same : same_bytes q id.name ≡ true = same_tied id.name q ∙ e in
          let there : under m q ≡ option_map (λ v. v.items) old =
          ap (under m) (same_bytes-is q id.name same) ∙ ap (option_map (λ v. v.items)) was in
          rw (same, there, made.1) refl
      by q false e = rw (same_tied id.name q ∙ e) refl

  pub holds_named : (name : List ℕ) → name ≡ id.name → value_at name_cmp m name ≡ old
      → AddsRun id ids rest (unwrap_or (option_map (λ v. v.items) old) []) w.items
      → ((q : List ℕ) → value_at name_cmp n q ≡ cond (is_eq (name_cmp name q)) (Some w) (value_at name_cmp m q))
      → HoldsRun id ids rest m n
  holds_named name e was made updates = holds_run (ap (value_at name_cmp m) (sym e) ∙ was) made
      (subst (λ (k : List ℕ). (q : List ℕ)
      → value_at name_cmp n q ≡ cond (is_eq (name_cmp k q)) (Some w) (value_at name_cmp m q)) e updates)

-- ---- held ids

-- ids with one more at their end
among_append : (done : List Id) (o id : Id) → is_among (done ++ o ∷ []) id ≡ (is_among done id || same_id id o)
among_append done o id =
    list_any-append (same_id id) done (o ∷ []) ∙ ap (λ b. is_among done id || b) (or-false (same_id id o))

above_middle : (id : Id) (ids : List Id) (o : Id) (rest : List Id) → list_all (id_below id) (ids ++ o ∷ rest) ≡ true
    → id_below id o ≡ true
above_middle id [] o rest h = (and_parts (id_below id o) (list_all (id_below id) rest) h).0
above_middle id (p ∷ ids) o rest h =
    above_middle id ids o rest (and_parts (id_below id p) (list_all (id_below id) (ids ++ o ∷ rest)) h).1

held_below : (done : List Id) (o : Id) (rest : List Id) (id : Id) → ids_rise (done ++ o ∷ rest) ≡ true
    → is_among done id ≡ true → id_below id o ≡ true
held_below [] o rest id h s = cc
held_below (p ∷ done) o rest id h s = by (same_id id p) refl
    (and_parts (list_all (id_below p) (done ++ o ∷ rest)) (ids_rise (done ++ o ∷ rest)) h) (λ a b. held_below done o rest id a b)
  where
    by : (b : Bool) → same_id id p ≡ b → (list_all (id_below p) (done ++ o ∷ rest) ≡ true) × (ids_rise (done ++ o ∷ rest) ≡ true)
        → (ids_rise (done ++ o ∷ rest) ≡ true → is_among done id ≡ true → id_below id o ≡ true) → id_below id o ≡ true
    by true e q on = subst (λ (i : Id). id_below i o ≡ true) (sym (id_from_same id p e)) (above_middle p done o rest q.0)
    by false e q on = on q.1 (sym (ap (λ b. b || is_among done id) e) ∙ s)

-- of one name, the id below has the smaller number
pub below_strict : (n : ℕ) (id : Id) → id_below (record { number = n; name = id.name }) id ≡ true → n < id.number
below_strict n id h = elim (cases_lt n id.number) [
  | inl lt ↦ lt
  | inr le ↦
      let e : n ≡ id.number = omega (arith, le, below_number (record { number = n; name = id.name }) id h) in
      let same : same_id (record { number = n; name = id.name }) id ≡ true =
      and_from _ _ (eq-eqb n id.number e) (same_bytes-refl id.name) in
      absurd (true≢false (sym same ∙ apart_below (record { number = n; name = id.name }) id h))
]

abbrev pub id_of : ℕ → List ℕ → Id
id_of n q = record { number = n; name = q }

all_below : (n : ℕ) (rs : List NumberRange) → list_all is_range rs ≡ true → ((k : ℕ) → has_number rs k ≡ true → k < n) → AllBelow n rs
all_below n [] each has = refl
all_below n (r ∷ rs) each has =
    let p = and_parts (is_range r) (list_all is_range rs) each in
    let here : has_number (r ∷ rs) r.last ≡ true =
    ap (λ b. b || has_number rs r.last) (lies_yes r.last r (range_bounds r p.0).1.0 (omega arith)) in
    and_from _ _ (lt-ltb r.last n (has r.last here)) (all_below n rs p.1 (λ k e. has k (or_right (lies_in k r) (has_number rs k) e)))

module _ (done : List Id) (o : Id) (rest : List Id) (rising : ids_rise (done ++ o ∷ rest) ≡ true) where
  more_held : (q : List ℕ) (k : ℕ) → same_bytes q o.name ≡ true
      → is_among (done ++ o ∷ []) (id_of k q) ≡ (is_among done (id_of k q) || eqb k o.number)
  more_held q k same = among_append done o (id_of k q) ∙ ap (λ b. is_among done (id_of k q) || (eqb k o.number && b)) same
      ∙ ap (λ b. is_among done (id_of k q) || b) (and-true (eqb k o.number))

  as_held : (q : List ℕ) (k : ℕ) → same_bytes q o.name ≡ false
      → is_among (done ++ o ∷ []) (id_of k q) ≡ is_among done (id_of k q)
  as_held q k other = among_append done o (id_of k q) ∙ ap (λ b. is_among done (id_of k q) || (eqb k o.number && b)) other
      ∙ ap (λ b. is_among done (id_of k q) || b) (and-false (eqb k o.number)) ∙ or-false (is_among done (id_of k q))

  numbers_below : (q : List ℕ) (k : ℕ) → same_bytes q o.name ≡ true → is_among done (id_of k q) ≡ true → k < o.number
  numbers_below q k same held = below_strict k o
      (subst (λ (w : List ℕ). id_below (id_of k w) o ≡ true) (same_bytes-is q o.name same)
      (held_below done o rest (id_of k q) rising held))

  under_same : (q : List ℕ) (u : Option (List NumberRange)) → is_number o.number ≡ true → same_bytes q o.name ≡ true
      → AreUnder done q u → AreUnder (done ++ o ∷ []) q (Some (with_last (unwrap_or u []) o.number))
  under_same q None num same h =
      let b = and_parts (leb 1 o.number) (leb o.number 1000000000000000) num in
      let low = leb-true _ _ b.0 in
      let high = leb-true _ _ b.1 in (
        last_ranges [] o.number low high refl refl refl,
        λ k. last_has o.number low high [] k refl
            ∙ sym (more_held q k same ∙ ap (λ c. c || eqb k o.number) (h k)),
      )
  under_same q (Some rs) num same h =
      let b = and_parts (leb 1 o.number) (leb o.number 1000000000000000) num in
      let low = leb-true _ _ b.0 in
      let high = leb-true _ _ b.1 in
      let below = all_below o.number rs h.0.each (λ k e. numbers_below q k same (sym (h.1 k) ∙ e)) in (
        last_ranges rs o.number low high h.0.each h.0.apart below,
        λ k. last_has o.number low high rs k h.0.each
            ∙ ap (λ c. c || eqb k o.number) (h.1 k) ∙ sym (more_held q k same),
      )

  under_other : (q : List ℕ) (u : Option (List NumberRange)) → same_bytes q o.name ≡ false → AreUnder done q u
      → AreUnder (done ++ o ∷ []) q u
  under_other q None other h = λ k. as_held q k other ∙ h k
  under_other q (Some rs) other h = (h.0, λ k. h.1 k ∙ sym (as_held q k other))

-- ---- a run of one name

added : (old : List NumberRange) (ns : List ℕ) (n : ℕ) → with_last (with_each old ns) n ≡ with_each old (ns ++ n ∷ [])
added old [] n = refl
added old (m ∷ ns) n = added (with_last old m) ns n

-- what holds of each item holds with one more, of which it holds too
pub all_push : {X : Type 0} (P : X → Type 0) (xs : List X) (x : X) → AllByRecursion P xs → P x → AllByRecursion P (xs ++ x ∷ [])
all_push P [] x h p = (p, tt)
all_push P (y ∷ xs) x h p = (h.0, all_push P xs x h.1 p)

module _ (id : Id) (ids : List Id) (old : List NumberRange) where
  pub run_begins : (new : List NumberRange) → new ≡ with_last old id.number → AddsRun id ids ids old new
  run_begins new e = (record { run = []; same = tt; parts = refl }, e)

  pub run_more : (it rest : List Id) (o : Id) (now new : List NumberRange) → it ≡ o ∷ rest
      → same_bytes o.name id.name ≡ true → new ≡ with_last now o.number → AddsRun id ids it old now → AddsRun id ids rest old new
  run_more it rest o now new next same more h = (
    record {
      run = h.0.run ++ o ∷ [];
      same = all_push _ h.0.run o h.0.same same;
      parts = h.0.parts ∙ ap (λ (w : List Id). h.0.run ++ w) next ∙ sym (append_assoc h.0.run (o ∷ []) rest);
    },
    more ∙ ap (λ (w : List NumberRange). with_last w o.number) h.1
        ∙ added old (numbers h.0) o.number
        ∙ ap (λ (w : List ℕ). with_each old (id.number ∷ w)) (sym (map-append (λ (p : Id). p.number) h.0.run (o ∷ []))),
  )

  pub run_ends : (it rest : List Id) (now : List NumberRange) → it ≡ rest → AddsRun id ids it old now → AddsRun id ids rest old now
  run_ends it rest now e h = subst (λ (w : List Id). AddsRun id ids w old now) e h

-- each number is one of an id
abbrev pub Numbered : List Id → Type 0
Numbered ids = AllByRecursion (λ (i : Id). is_number i.number ≡ true) ids

-- the ids of a run are done
run_same : (done : List Id) (o : Id) (run rest : List Id) (q : List ℕ) (u : Option (List NumberRange))
    → ids_rise (done ++ o ∷ (run ++ rest)) ≡ true → Numbered (o ∷ run)
    → AllByRecursion (λ (p : Id). same_bytes q p.name ≡ true) (o ∷ run) → AreUnder done q u
    → AreUnder (done ++ o ∷ run) q (Some (with_each (unwrap_or u []) (o.number ∷ map (λ (p : Id). p.number) run)))
run_same done o [] rest q u rising num same h = under_same done o rest rising q u num.0 same.0 h
run_same done o (p ∷ run) rest q u rising num same h =
    let one = under_same done o (p ∷ (run ++ rest)) rising q u num.0 same.0 h in
    let more = run_same (done ++ o ∷ []) p run rest q (Some (with_last (unwrap_or u []) o.number))
    (ap ids_rise (append_assoc done (o ∷ []) (p ∷ (run ++ rest))) ∙ rising) num.1 same.1 one in
    subst (λ (w : List Id). AreUnder w q
    (Some (with_each (unwrap_or u []) (o.number ∷ p.number ∷ map (λ (x : Id). x.number) run))))
    (append_assoc done (o ∷ []) (p ∷ run)) more

run_other : (done : List Id) (o : Id) (run rest : List Id) (q : List ℕ) (u : Option (List NumberRange))
    → ids_rise (done ++ o ∷ (run ++ rest)) ≡ true
    → AllByRecursion (λ (p : Id). same_bytes q p.name ≡ false) (o ∷ run) → AreUnder done q u
    → AreUnder (done ++ o ∷ run) q u
run_other done o [] rest q u rising other h = under_other done o rest rising q u other.0 h
run_other done o (p ∷ run) rest q u rising other h =
    let one = under_other done o (p ∷ (run ++ rest)) rising q u other.0 h in
    subst (λ (w : List Id). AreUnder w q u) (append_assoc done (o ∷ []) (p ∷ run))
    (run_other (done ++ o ∷ []) p run rest q u (ap ids_rise (append_assoc done (o ∷ []) (p ∷ (run ++ rest))) ∙ rising) other.1 one)

-- a run has one name
one_name : (q : List ℕ) (id : Id) (b : Bool) (run : List Id) → same_bytes q id.name ≡ b
    → AllByRecursion (λ (p : Id). IsTrue (same_bytes p.name id.name)) run
    → AllByRecursion (λ (p : Id). same_bytes q p.name ≡ b) run
one_name q id b [] e h = tt
one_name q id b (p ∷ run) e h =
    (ap (same_bytes q) (same_bytes-is p.name id.name h.0) ∙ e, one_name q id b run e h.1)

pub names_run : {A : Type 0} (done : List Id) (o : Id) (ids rest : List Id)
    (m n : BTreeMap (List ℕ) (Vec NumberRange A)) (h : HoldsRun o ids rest m n)
    → ids_rise (done ++ o ∷ ids) ≡ true → Numbered (o ∷ h.0.run) → ((q : List ℕ) → AreUnder done q (under m q))
    → (q : List ℕ) → AreUnder (done ++ o ∷ h.0.run) q (under n q)
names_run done o ids rest m n h rising num so_far q = by (same_bytes q o.name) refl
  where
    parts : ids_rise (done ++ o ∷ (h.0.run ++ rest)) ≡ true
    parts = ap (λ (w : List Id). ids_rise (done ++ o ∷ w)) (sym h.0.parts) ∙ rising

    is : (b : Bool) → same_bytes q o.name ≡ b
        → cond b (Some (with_each (unwrap_or (under m q) []) (numbers h.0))) (under m q) ≡ under n q
    is b e =
        sym (h.1 q ∙ ap (λ c. cond c (Some (with_each (unwrap_or (under m q) []) (numbers h.0))) (under m q)) e)

    by : (b : Bool) → same_bytes q o.name ≡ b → AreUnder (done ++ o ∷ h.0.run) q (under n q)
    by true e = subst (AreUnder (done ++ o ∷ h.0.run) q) (is true e)
        (run_same done o h.0.run rest q (under m q) parts num (e, one_name q o true h.0.run e h.0.same) (so_far q))
    by false e = subst (AreUnder (done ++ o ∷ h.0.run) q) (is false e)
        (run_other done o h.0.run rest q (under m q) parts (e, one_name q o false h.0.run e h.0.same) (so_far q))

pub if_ok : {T E : Type 0} (r : Result T E) (P Q : T → Type 0) → ((x : T) → P x → Q x) → IfOk r P → IfOk r Q
if_ok (Ok x) P Q f h = f x h
if_ok (Err e) P Q f h = tt

-- the same entries have the same ids
pub run_as : {A : Type 0} (l m n : BTreeMap (List ℕ) (Vec NumberRange A)) (id : Id) (ids rest : List Id) → l.entries ≡ m.entries
    → HoldsRun id ids rest l n → HoldsRun id ids rest m n
run_as l m n id ids rest e h = (
  h.0,
  λ q. h.1 q ∙ ap
      (λ es. cond (same_bytes q id.name)
      (Some (with_each (unwrap_or (option_map (λ v. v.items) (lookup (is_at (name_cmp q)) es)) []) (numbers h.0)))
      (option_map (λ v. v.items) (lookup (is_at (name_cmp q)) es))) e,
)
