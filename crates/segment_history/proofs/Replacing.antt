-- Maps of ids by those that they replace.
use Rattle.std.proofs.Common.{◌≡◌, ℕ, ◌+◌, ◌<◌, Bool, true, false, cond, ◌||◌, List, [], ◌∷◌, ◌++◌, length, take, get_or, ltb, filter, Option, Some, Vec, option_map, refl, sym, ap, ◌∙◌}
use Rattle.std.specs.Option.{unwrap_or}
use Rattle.std.specs.BTreeMap.{BTreeMap, get as value_at, is_at}
use Rattle.std.specs.List.{list_any, list_all}
use Rattle.std.specs.Map.{lookup}
use Rattle.std.proofs.lemmas.Bool.{and_parts}
use Rattle.std.proofs.lemmas.List.{append-nil, map-append, take_more}
use Rattle.std.proofs.lemmas.List.Elements.{filter-append}
use Rattle.op_core.specs.Ids.{Id, id_cmp, same_id, id_below, ids_rise}
use Rattle.op_core.specs.Equal.{id_from_same}
use Rattle.op_core.specs.Lists.{ids_of}
use Rattle.op_core.specs.Ops.{Operation, IsOperation, names}
use Rattle.op_core.proofs.Sets.Union.{apart_below}
use Rattle.segment_history.specs.Histories.{replaced_by}
use Rattle.segment_history.specs.Loops.Gathering.{ids_under, AddsNamed, AddsUnder, HasReplacers}
use Rattle.segment_history.proofs.Gathers.{at_id}

none_above : (q id : Id) (ids : List Id) → list_all (id_below id) ids ≡ true → same_id q id ≡ true → list_any (same_id q) ids ≡ false
none_above q id [] h s = refl
none_above q id (n ∷ ids) h s =
    let p = and_parts (id_below id n) (list_all (id_below id) ids) h in
    (λ i. (ap (λ (x : Id). same_id x n) (id_from_same q id s) ∙ apart_below id n p.0) i || none_above q id ids p.1 s i)

module _ {A : Type 0} where
  -- an id more, where there may be some
  pub put_under : (by k : Id) (m n : BTreeMap Id (Vec Id A)) (old : Option (Vec Id A)) (w : Vec Id A) → value_at id_cmp m k ≡ old
      → w.items ≡ unwrap_or (option_map (λ v. v.items) old) [] ++ by ∷ []
      → ((q : Id) → value_at id_cmp n q ≡ cond (is_at (id_cmp k) q) (Some w) (value_at id_cmp m q)) → AddsUnder by k m n
  put_under by k m n old w was more updates q =
      ap (λ u. unwrap_or (option_map (λ (v : Vec Id A). v.items) u) []) (updates q)
      ∙ each (is_at (id_cmp k) q) (same_id q k) refl (at_id q k)
    where
      each : (at same : Bool) → same_id q k ≡ same → at ≡ same
          → unwrap_or (option_map (λ v. v.items) (cond at (Some w) (value_at id_cmp m q))) []
          ≡ ids_under m q ++ cond same (by ∷ []) []
      each true true s e =
          more
          ∙ ap (λ u. unwrap_or (option_map (λ (v : Vec Id A). v.items) u) [] ++ by ∷ [])
          (sym (ap (value_at id_cmp m) (id_from_same q k s) ∙ was))
      each true false s e = absurd cc
      each false true s e = absurd cc
      each false false s e = sym (append-nil (ids_under m q))

  -- the same of a map that has the entries of another one
  pub as_entries : (by k : Id) (l m n : BTreeMap Id (Vec Id A)) → l.entries ≡ m.entries → AddsUnder by k l n → AddsUnder by k m n
  as_entries by k l m n same adds q =
      adds q
      ∙ ap (λ es. unwrap_or (option_map (λ (v : Vec Id A). v.items) (lookup (is_at (id_cmp q)) es)) []
      ++ cond (same_id q k) (by ∷ []) []) same

  -- ---- the ids that an operation names

  -- so far an id is under those of a list but for those that are left
  pub record UnderSoFar (by : Id) (ids rest : List Id) (m n : BTreeMap Id (Vec Id A)) : Type 0 where
    pub rising : ids_rise rest ≡ true
    pub under : (q : Id) → ids_under n q ++ cond (list_any (same_id q) rest) (by ∷ []) []
        ≡ ids_under m q ++ cond (list_any (same_id q) ids) (by ∷ []) []

  pub under_none : (by : Id) (ids it : List Id) (m n : BTreeMap Id (Vec Id A)) → it ≡ ids → n ≡ m → ids_rise ids ≡ true
      → UnderSoFar by ids it m n
  under_none by ids it m n same unchanged rise = record {
    rising = ap ids_rise same ∙ rise;
    under = λ q i. ids_under (unchanged i) q ++ cond (list_any (same_id q) (same i)) (by ∷ []) [];
  }

  pub under_more : (by : Id) (ids it rest : List Id) (id : Id) (m n t : BTreeMap Id (Vec Id A)) → it ≡ id ∷ rest
      → AddsUnder by id n t → UnderSoFar by ids it m n → UnderSoFar by ids rest m t
  under_more by ids it rest id m n t next adds so =
      record { rising = (and_parts (list_all (id_below id) rest) (ids_rise rest) parts).1; under = each }
    where
      parts : ids_rise (id ∷ rest) ≡ true
      parts = ap ids_rise (sym next) ∙ so.rising

      both : (q : Id) (a r : Bool) → (a ≡ true → r ≡ false) → (u : List Id)
          → (u ++ cond a (by ∷ []) []) ++ cond r (by ∷ []) [] ≡ u ++ cond (a || r) (by ∷ []) []
      both q true true h u = absurd (let e = h refl in cc)
      both q true false h u = append-nil (u ++ by ∷ [])
      both q false r h u = ap (λ (xs : List Id). xs ++ cond r (by ∷ []) []) (append-nil u)

      each : (q : Id) → ids_under t q ++ cond (list_any (same_id q) rest) (by ∷ []) []
          ≡ ids_under m q ++ cond (list_any (same_id q) ids) (by ∷ []) []
      each q =
          ap (λ (xs : List Id). xs ++ cond (list_any (same_id q) rest) (by ∷ []) []) (adds q)
          ∙ both q (same_id q id) (list_any (same_id q) rest)
          (none_above q id rest (and_parts (list_all (id_below id) rest) (ids_rise rest) parts).0) (ids_under n q)
          ∙ ap (λ (xs : List Id). ids_under n q ++ cond (list_any (same_id q) xs) (by ∷ []) []) (sym next) ∙ so.under q

  pub under_all : (o : Operation) (by : Id) (it : List Id) (m n : BTreeMap Id (Vec Id A)) → by ≡ o.id → it ≡ []
      → UnderSoFar by o.replaced it m n → AddsNamed o m n
  under_all o by it m n is end so q =
      sym (append-nil (ids_under n q))
      ∙ ap (λ (xs : List Id). ids_under n q ++ cond (list_any (same_id q) xs) (by ∷ []) []) (sym end)
      ∙ so.under q ∙ ap (λ (xs : List Id). ids_under m q ++ xs) (one (names o q))
    where
      one : (b : Bool) → cond b (by ∷ []) [] ≡ ids_of (cond b (o ∷ []) [])
      one true = ap (λ (i : Id). i ∷ []) is
      one false = refl

  -- ---- one operation after another

  pub replacers_more : (ops : List Operation) (i : ℕ) (o : Operation) (m n : BTreeMap Id (Vec Id A)) → i < length ops
      → o ≡ get_or ops i o → AddsNamed o m n → HasReplacers (take i ops) m → HasReplacers (take (i + 1) ops) n
  replacers_more ops i o m n l is adds has q =
      adds q ∙ ap (λ (xs : List Id). xs ++ replaced_by (o ∷ []) q) (has q)
      ∙ sym (ap ids_of (filter-append (λ (p : Operation). names p q) (take i ops) (o ∷ []))
      ∙ map-append (λ (p : Operation). p.id) (filter (λ (p : Operation). names p q) (take i ops)) (filter (λ p. names p q) (o ∷ [])))
      ∙ ap (λ (os : List Operation). replaced_by os q)
      (ap (λ (p : Operation). take i ops ++ p ∷ []) is ∙ sym (take_more ops i o l))

-- the ids that an operation names rise
pub falls_rise : (o : Operation) → IsOperation o → ids_rise o.replaced ≡ true
falls_rise o valid = (and_parts (ids_rise o.replaced) (list_all (λ n. ltb n.number o.id.number) o.replaced) valid.falls).0
