-- A map of the thinned operations of a set, from which those go that one of their segment names.
use Rattle.std.proofs.Common.{◌≡◌, ℕ, ◌+◌, Bool, true, false, cond, not, ◌&&◌, ◌||◌, List, [], ◌∷◌, length, Bor, Option, Some, None, Err, is_some, refl, sym, ap, ◌∙◌}
use Rattle.std.specs.List.{list_any, AllByRecursion}
use Rattle.std.specs.BTreeMap.{get as value_at, is_at}
use Rattle.std.specs.Map.{lookup}
use Rattle.std.proofs.lemmas.Bool.{and_parts, and_from}
use Rattle.std.proofs.Math.Bool.{and-false, or-false}
use Rattle.op_core.specs.Ids.{Id, id_cmp, same_id}
use Rattle.op_core.specs.Equal.{id_from_same, same_id-refl}
use Rattle.op_core.specs.Ops.{Operation, is_full}
use Rattle.op_core.specs.Sets.{rises, get}
use Rattle.op_core.specs.Thinned.{is_past, all_full}
use Rattle.op_core.proofs.IdOrders.Rising.{same_id-cmp}
use Rattle.op_core.proofs.Sets.Union.{rises_parts, get_above, held_itself}
use Rattle.op_core.proofs.ThinnedSets.Left.{same_id-sym}
use Rattle.bundle_codec.specs.declared.fault.BundleFault.TheVariants.{Unsupported}
use Rattle.bundle_codec.specs.Reading.{unnamed_from, unnamed_place, judge_named, judge_thinned}
use Rattle.bundle_codec.specs.Views.{lent}
use Rattle.bundle_codec.specs.Loops.Thinning.{Place, Places, thinned_place, HoldsThinned, is_beside, is_naming, left_of, LeavesNamed, first_of}

-- the key that a map finds for an id is that id
same_key : (q k : Id) → is_at (id_cmp k) q ≡ same_id q k
same_key q k = sym (same_id-cmp k q) ∙ same_id-sym k q

cond_same : {A : Type 0} (b : Bool) (x : A) → cond b x x ≡ x
cond_same true x = refl
cond_same false x = refl

-- ---- the thinned operations, one by one

abbrev segment_at : Operation → Place
segment_at o = (o.segment.book, o.segment.key)

-- what an id has after one operation more
abbrev with_op : Operation → Id → Option Place → Option Place
with_op o q v = cond (same_id q o.id && not (is_full o)) (Some (segment_at o)) v

-- what an id has after operations more
abbrev pub with_ops : List Operation → Id → Option Place → Option Place
with_ops [] q v = v
with_ops (o ∷ rest) q v = with_ops rest q (with_op o q v)

with_none : (ops : List Operation) (q : Id) (v : Option Place) → get ops q ≡ None → with_ops ops q v ≡ v
with_none [] q v e = refl
with_none (o ∷ ops) q v e = by (same_id q o.id) refl e (λ w g. with_none ops q w g)
  where
    by : (b : Bool) → same_id q o.id ≡ b → cond b (Some o) (get ops q) ≡ None
        → ((w : Option Place) → get ops q ≡ None → with_ops ops q w ≡ w) → with_ops ops q (with_op o q v) ≡ v
    by true h g on = absurd cc
    by false h g on = on (with_op o q v) g ∙ ap (λ b. cond (b && not (is_full o)) (Some (segment_at o)) v) h

with_held : (ops : List Operation) (q : Id) → rises ops ≡ true → with_ops ops q None ≡ thinned_place (get ops q)
with_held [] q h = refl
with_held (o ∷ ops) q h = by (same_id q o.id) refl (with_held ops q (rises_parts o ops h).1)
  where
    one : (b : Bool) → is_full o ≡ b → cond (not b) (Some (segment_at o)) None ≡ cond b None (Some (segment_at o))
    one true e = refl
    one false e = refl

    by : (b : Bool) → same_id q o.id ≡ b → with_ops ops q None ≡ thinned_place (get ops q)
        → with_ops ops q (with_op o q None) ≡ thinned_place (cond b (Some o) (get ops q))
    by true e on =
        with_none ops q (with_op o q None)
        (ap (get ops) (id_from_same q o.id e) ∙ get_above o.id ops (rises_parts o ops h).0)
        ∙ ap (λ b. cond (b && not (is_full o)) (Some (segment_at o)) None) e ∙ one (is_full o) refl
    by false e on = ap (λ b. with_ops ops q (cond (b && not (is_full o)) (Some (segment_at o)) None)) e ∙ on

-- So far a map has the thinned ones of those that were passed; of full operations full ones are left.
pub record SoFarThinned (ops rest : List Operation) (m : Places) : Type 0 where
  pub values : (q : Id) → with_ops rest q (value_at id_cmp m q) ≡ with_ops ops q None
  pub fulls : all_full ops ≡ true → all_full rest ≡ true

module _ (ops it rest : List Operation) (o : Operation) (m : Places) (next : it ≡ o ∷ rest) (s : SoFarThinned ops it m) where
  fulls_on : all_full ops ≡ true → (is_full o ≡ true) × (all_full rest ≡ true)
  fulls_on h = and_parts (is_full o) (all_full rest) (ap all_full (sym next) ∙ s.fulls h)

  values_on : (q : Id) → with_ops rest q (with_op o q (value_at id_cmp m q)) ≡ with_ops ops q None
  values_on q = ap (λ (xs : List Operation). with_ops xs q (value_at id_cmp m q)) (sym next) ∙ s.values q

  pub passes_full : is_full o ≡ true → SoFarThinned ops rest m
  passes_full f = record {
    values = λ q.
        ap (with_ops rest q)
        (sym (ap (λ b. cond (same_id q o.id && not b) (Some (segment_at o)) (value_at id_cmp m q)) f
        ∙ ap (λ b. cond b (Some (segment_at o)) (value_at id_cmp m q)) (and-false (same_id q o.id))))
        ∙ values_on q;
    fulls = λ h. (fulls_on h).1;
  }

  module _ (f : is_full o ≡ false) where
    pub is_thinned_one : all_full ops ≡ false
    is_thinned_one = by (all_full ops) refl
      where
        by : (b : Bool) → all_full ops ≡ b → b ≡ false
        by false e = refl
        by true e = sym (fulls_on e).0 ∙ f

    pub passes_thinned : (n : Places)
        → ((q : Id) → value_at id_cmp n q ≡ cond (is_at (id_cmp o.id) q) (Some (segment_at o)) (value_at id_cmp m q))
        → SoFarThinned ops rest n
    passes_thinned n new = record {
      values = λ q.
          ap (with_ops rest q)
          (new q ∙ ap (λ b. cond b (Some (segment_at o)) (value_at id_cmp m q)) (same_key q o.id ∙ thinned_too (same_id q o.id)))
          ∙ values_on q;
      fulls = λ h. (fulls_on h).1;
    }
      where
        thinned_too : (b : Bool) → b ≡ (b && not (is_full o))
        thinned_too true = ap not (sym f)
        thinned_too false = refl

-- an operation of which no text is lent is thinned
pub no_text : (o : Operation) (t : Option (Bor (List ℕ))) → lent t ≡ o.text → is_some t ≡ false → is_full o ≡ false
no_text o t e f = ap is_some (sym e) ∙ by t f
  where
    by : (t : Option (Bor (List ℕ))) → is_some t ≡ false → is_some (lent t) ≡ false
    by None f = refl
    by (Some x) f = absurd cc

pub holds_thinned : (ops it : List Operation) (m : Places) → rises ops ≡ true → it ≡ [] → SoFarThinned ops it m → HoldsThinned ops m
holds_thinned ops it m h end s q =
    ap (λ (xs : List Operation). with_ops xs q (value_at id_cmp m q)) (sym end) ∙ s.values q ∙ with_held ops q h

-- ---- a map without entries

-- a map without entries has no values
no_value : (m : Places) → length m.entries ≡ 0 → (q : Id) → value_at id_cmp m q ≡ None
no_value m e q = nothing m.entries e
  where
    nothing : (es : List (Id × Place)) → length es ≡ 0 → lookup (is_at (id_cmp q)) es ≡ None
    nothing [] z = refl
    nothing (x ∷ es) z = absurd cc

thinned_full : (o : Operation) → thinned_place (Some o) ≡ None → is_full o ≡ true
thinned_full o e = by (is_full o) refl e
  where
    by : (b : Bool) → is_full o ≡ b → cond b None (Some (segment_at o)) ≡ None → b ≡ true
    by true f g = refl
    by false f g = absurd cc

module _ (ops : List Operation) (m : Places) (h : rises ops ≡ true) (holds : HoldsThinned ops m) where
  pub none_thinned : length m.entries ≡ 0 → all_full ops ≡ true
  none_thinned e = by ops (held_itself ops h)
    where
      by : (xs : List Operation) → AllByRecursion (λ o. get ops o.id ≡ Some o) xs → all_full xs ≡ true
      by [] a = refl
      by (o ∷ xs) a =
          and_from _ _ (thinned_full o (ap thinned_place (sym a.0) ∙ sym (holds o.id) ∙ no_value m e o.id)) (by xs a.1)

  full_place : all_full ops ≡ true → (q : Id) → thinned_place (get ops q) ≡ None
  full_place f q = by ops f
    where
      by : (xs : List Operation) → all_full xs ≡ true → thinned_place (get xs q) ≡ None
      by [] f = refl
      by (o ∷ xs) f = on (same_id q o.id) (and_parts (is_full o) (all_full xs) f) (λ g. by xs g)
        where
          on : (b : Bool) → (is_full o ≡ true) × (all_full xs ≡ true) → (all_full xs ≡ true → thinned_place (get xs q) ≡ None)
              → thinned_place (cond b (Some o) (get xs q)) ≡ None
          on true p rest = ap (λ b. cond b None (Some (segment_at o))) p.0
          on false p rest = rest p.1

  pub some_thinned : (length m.entries ≡ 0 → ⊥) → all_full ops ≡ false
  some_thinned ne = by (all_full ops) refl
    where
      found : (es : List (Id × Place)) → (length es ≡ 0 → ⊥)
          → ((q : Id) → lookup (is_at (id_cmp q)) es ≡ None) → ⊥
      found [] some none = some refl
      found (e ∷ es) some none = absurd (first (is_at (id_cmp e.0) e.0) (same_key e.0 e.0 ∙ same_id-refl e.0) (none e.0))
        where
          first : (b : Bool) → b ≡ true
              → cond b (Some e.1) (lookup (is_at (id_cmp e.0)) es) ≡ None → ⊥
          first true t n = absurd cc
          first false t n = absurd cc

      by : (b : Bool) → all_full ops ≡ b → b ≡ false
      by false e = refl
      by true e = absurd (found m.entries ne (λ q. holds q ∙ full_place e q))

-- ---- what is named goes

-- what is left at an id, where the operation may be of its segment and the id among some
abbrev pub left_by : Operation → List Id → Id → Option Place → Option Place
left_by o ids q g = cond (is_beside g o && list_any (same_id q) ids) None g

-- so far those that were passed are gone
abbrev pub SoFarNamed : Operation → List Id → List Id → Places → Places → Type 0
SoFarNamed o ids rest m n = (q : Id) → left_by o rest q (value_at id_cmp n q) ≡ left_by o ids q (value_at id_cmp m q)

module _ (o : Operation) (ids it rest : List Id) (id : Id) (m n : Places) (next : it ≡ id ∷ rest) (s : SoFarNamed o ids it m n) where
  named_on : (q : Id) → left_by o (id ∷ rest) q (value_at id_cmp n q) ≡ left_by o ids q (value_at id_cmp m q)
  named_on q = ap (λ (xs : List Id). left_by o xs q (value_at id_cmp n q)) (sym next) ∙ s q

  pub stays : is_beside (value_at id_cmp n id) o ≡ false → SoFarNamed o ids rest m n
  stays f q = by (same_id q id) refl ∙ named_on q
    where
      by : (b : Bool) → same_id q id ≡ b → left_by o rest q (value_at id_cmp n q) ≡ left_by o (id ∷ rest) q (value_at id_cmp n q)
      by true e =
          let off : is_beside (value_at id_cmp n q) o ≡ false =
          ap (λ (x : Id). is_beside (value_at id_cmp n x) o) (id_from_same q id e) ∙ f in
          ap (λ b. cond (b && list_any (same_id q) rest) None (value_at id_cmp n q)) off
          ∙ ap (λ b. cond (b && list_any (same_id q) (id ∷ rest)) None (value_at id_cmp n q)) (sym off)
      by false e =
          ap (λ b. cond (is_beside (value_at id_cmp n q) o && (b || list_any (same_id q) rest)) None (value_at id_cmp n q)) (sym e)

  pub goes : is_beside (value_at id_cmp n id) o ≡ true → (n' : Places)
      → ((q : Id) → value_at id_cmp n' q ≡ cond (is_at (id_cmp id) q) None (value_at id_cmp n q)) → SoFarNamed o ids rest m n'
  goes f n' new q = ap (left_by o rest q) (new q ∙ ap (λ b. cond b None (value_at id_cmp n q)) (same_key q id)) ∙ by (same_id q id) refl
      ∙ named_on q
    where
      by : (b : Bool) → same_id q id ≡ b
          → left_by o rest q (cond b None (value_at id_cmp n q)) ≡ left_by o (id ∷ rest) q (value_at id_cmp n q)
      by true e =
          let on : is_beside (value_at id_cmp n q) o ≡ true =
          ap (λ (x : Id). is_beside (value_at id_cmp n x) o) (id_from_same q id e) ∙ f in
          sym (ap (λ b. cond (b && list_any (same_id q) (id ∷ rest)) None (value_at id_cmp n q)) on
          ∙ ap (λ b. cond (b || list_any (same_id q) rest) None (value_at id_cmp n q)) e)
      by false e =
          ap (λ b. cond (is_beside (value_at id_cmp n q) o && (b || list_any (same_id q) rest)) None (value_at id_cmp n q)) (sym e)

pub named_left : (o : Operation) (it : List Id) (m n : Places) → it ≡ [] → SoFarNamed o o.replaced it m n → LeavesNamed (o ∷ []) m n
named_left o it m n end s q =
    let g = value_at id_cmp n q in
    sym (ap (λ b. cond b None g) (and-false (is_beside g o))) ∙ ap (λ (xs : List Id). left_by o xs q g) (sym end) ∙ s q
    ∙ ap (λ b. cond b None (value_at id_cmp m q)) (sym (or-false (is_naming q (value_at id_cmp m q) o)))

-- one operation after another
abbrev pub SoFarLeft : List Operation → List Operation → Places → Places → Type 0
SoFarLeft ops rest m n = (q : Id) → left_of rest q (value_at id_cmp n q) ≡ left_of ops q (value_at id_cmp m q)

left_then : (o : Operation) (rest : List Operation) (q : Id) (g : Option Place)
    → left_of rest q (left_of (o ∷ []) q g) ≡ left_of (o ∷ rest) q g
left_then o rest q g = by (is_naming q g o) refl
  where
    by : (b : Bool) → is_naming q g o ≡ b
        → left_of rest q (cond (b || false) None g) ≡ cond (b || list_any (is_naming q g) rest) None g
    by true e = cond_same (list_any (is_naming q None) rest) None
    by false e = refl

pub left_on : (ops it rest : List Operation) (o : Operation) (m n n' : Places) → it ≡ o ∷ rest → LeavesNamed (o ∷ []) n n'
    → SoFarLeft ops it m n → SoFarLeft ops rest m n'
left_on ops it rest o m n n' next new s q =
    ap (left_of rest q) (new q) ∙ left_then o rest q (value_at id_cmp n q)
    ∙ ap (λ (xs : List Operation). left_of xs q (value_at id_cmp n q)) (sym next) ∙ s q

pub left_all : (ops it : List Operation) (m n : Places) → it ≡ [] → SoFarLeft ops it m n → LeavesNamed ops m n
left_all ops it m n end s q = ap (λ (xs : List Operation). left_of xs q (value_at id_cmp n q)) (sym end) ∙ s q

-- ---- the first that is left

module _ (ops : List Operation) (m n : Places) (h : rises ops ≡ true) (holds : HoldsThinned ops m) (leaves : LeavesNamed ops m n) where
  is_left : (o : Operation) → get ops o.id ≡ Some o → is_some (value_at id_cmp n o.id) ≡ not (is_full o || is_past ops o)
  is_left o g = ap is_some (leaves o.id ∙ ap (left_of ops o.id) (holds o.id ∙ ap thinned_place g)) ∙ by (is_full o) refl
    where
      left : (b : Bool) → is_some (cond b None (Some (segment_at o))) ≡ not b
      left true = refl
      left false = refl

      by : (b : Bool) → is_full o ≡ b
          → is_some (left_of ops o.id (cond b None (Some (segment_at o)))) ≡ not (b || is_past ops o)
      by true e = ap is_some (cond_same (list_any (is_naming o.id None) ops) None)
      by false e = left (is_past ops o)

  turned : {A : Type 0} (b : Bool) (x y : A) → cond (not b) x y ≡ cond b y x
  turned true x y = refl
  turned false x y = refl

  first_as : (xs : List Operation) (k : ℕ) → AllByRecursion (λ o. get ops o.id ≡ Some o) xs → first_of n k xs ≡ unnamed_from ops k xs
  first_as [] k a = refl
  first_as (o ∷ xs) k a =
      ap (λ b. cond b (Some k) (first_of n (k + 1) xs)) (is_left o a.0)
      ∙ turned (is_full o || is_past ops o) (Some k) (first_of n (k + 1) xs)
      ∙ ap (λ r. cond (is_full o || is_past ops o) r (Some k)) (first_as xs (k + 1) a.1)

  pub first_is : first_of n 1 ops ≡ unnamed_place ops
  first_is = first_as ops 1 (held_itself ops h)

-- ---- what is judged of a set of format 2

module _ (ops : List Operation) (m : Places) (h : rises ops ≡ true) (holds : HoldsThinned ops m) where
  pub judged_empty : length m.entries ≡ 0 → judge_thinned false ops ≡ Err (Unsupported 0)
  judged_empty e = rw (none_thinned ops m h holds e) refl

  pub judged_left : (empty : Bool) → (length m.entries ≡ 0 → empty ≡ true) → empty ≡ false → (n : Places) → LeavesNamed ops m n
      → (found : Option ℕ) → found ≡ first_of n 1 ops → judge_thinned false ops ≡ judge_named found
  judged_left empty is not n leaves found first =
      rw (some_thinned ops m h holds (λ z. by empty (is z) not)) (ap judge_named (sym (first ∙ first_is ops m n h holds leaves)))
    where
      by : (b : Bool) → b ≡ true → b ≡ false → ⊥
      by true e f = cc
      by false e f = cc

-- ---- the walk that looks for it

abbrev pub SoFarFirst : Places → List Operation → List Operation → ℕ → ℕ → Type 0
SoFarFirst m ops rest k count = (first_of m (k + 1) rest ≡ first_of m 1 ops) × (k + length rest ≡ count)
