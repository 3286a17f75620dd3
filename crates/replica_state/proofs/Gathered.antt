-- Bundles that are gathered, and what a replica that holds nothing takes of them.
use Rattle.std.proofs.Common.{◌≡◌, Bool, true, false, not, cond, List, [], ◌∷◌, Option, Some, None, is_none, refl, sym, ap, ◌∙◌}
use Rattle.std.specs.BTreeMap.{insert_entry}
use Rattle.std.specs.List.{find, list_all, AllByRecursion}
use Rattle.std.specs.Map.{lookup, values_of}
use Rattle.std.specs.Option.{option_map}
use Rattle.std.specs.Ordering.{is_eq, match_ordering}
use Rattle.std.specs.FinMap.Entries.{by_order}
use Rattle.std.specs.declared.cmp.Ordering.TheVariants.{Less, Equal, Greater}
use Rattle.std.proofs.lemmas.Bool.{and_parts, cond-true, cond-false}
use Rattle.op_core.specs.Equal.{id_from_same}
use Rattle.op_core.specs.Ids.{Id, id_cmp, same_id, id_below}
use Rattle.op_core.specs.Ops.{Operation, IsOperation, is_full, agree}
use Rattle.op_core.specs.Sets.{IsOpSet, rises, get, meet, met, put, differs, clash, join}
use Rattle.op_core.specs.Loops.Index.{AreApart}
use Rattle.op_core.specs.Thinned.{is_legal}
use Rattle.op_core.proofs.Sets.Fronts.{join_none}
use Rattle.op_core.proofs.Sets.Legal.{join_legal}
use Rattle.op_core.proofs.IdOrders.Rising.{same_id-cmp}
use Rattle.op_core.proofs.Sets.Union.{AllAbove, apart_above, get_above, rises_parts, met_none, get-put, rises-put, same_gets}
use Rattle.op_core.proofs.Sets.Union.{rises-join, get-join, IsOpSet-put, agree_from_no_clash}
use Rattle.bundle_codec.proofs.Merges.{meets_thinned}
use Rattle.replica_state.specs.Loops.Gathering.{by_id}
use Rattle.replica_state.specs.Receives.{lacked, before_clash}

-- ---- operations under their ids

-- what is looked up under an id is what is held under it
pub looked_up : (q : Id) (ops : List Operation) → lookup (λ k. is_eq (id_cmp q k)) (by_id ops) ≡ get ops q
looked_up q [] = refl
looked_up q (p ∷ ops) = λ i. cond (sym (same_id-cmp q p.id) i) (Some p) (looked_up q ops i)

pub held_at : (entries : List (Id × Operation)) (ops : List Operation) (id q : Id) (r : Option Operation) → entries ≡ by_id ops → id ≡ q
    → r ≡ lookup (λ k. is_eq (id_cmp id k)) entries → get ops q ≡ r
held_at entries ops id q r e s g = sym (g ∙ ap (lookup (λ k. is_eq (id_cmp id k))) e ∙ looked_up id ops ∙ ap (get ops) s)

-- the values under ids are the operations
pub unpaired : (ops : List Operation) → values_of (by_id ops) ≡ ops
unpaired [] = refl
unpaired (o ∷ ops) = ap (λ xs. o ∷ xs) (unpaired ops)

-- an operation is put in by inserting it under its id, where it stays of the two
pub inserted : (o : Operation) (ops : List Operation) → ((p : Operation) → get ops o.id ≡ Some p → meet p o ≡ o)
    → insert_entry id_cmp (by_id ops) o.id o ≡ by_id (put o ops)
inserted o [] stays = refl
inserted o (p ∷ ops) stays =
    elim (id_cmp o.id p.id) as
    (λ r. id_cmp o.id p.id ≡ r
    → match_ordering r ((o.id, o) ∷ by_id (p ∷ ops)) ((p.id, o) ∷ by_id ops) ((p.id, p) ∷ insert_entry id_cmp (by_id ops) o.id o)
    ≡ by_id (by_order r (o ∷ p ∷ ops) (meet p o ∷ ops) (p ∷ put o ops))) [
      | Less ↦ λ e. refl
      | Equal ↦ λ e.
          let here = cond-true (same_id o.id p.id) (Some p) (get ops o.id) (same_id-cmp o.id p.id ∙ ap is_eq e) in
          λ i. (p.id, sym (stays p here) i) ∷ by_id ops
      | Greater ↦ λ e. ap (λ es. (p.id, p) ∷ es) (inserted o ops (λ q g.
          stays q (cond-false (same_id o.id p.id) (Some p) (get ops o.id) (same_id-cmp o.id p.id ∙ ap is_eq e) ∙ g)))
    ] refl

pub inserted_new : (o : Operation) (ops : List Operation) → get ops o.id ≡ None
    → insert_entry id_cmp (by_id ops) o.id o ≡ by_id (put o ops)
inserted_new o ops none = inserted o ops (λ p some. cc (sym none ∙ some))

-- a thinned operation stays of two that agree
pub inserted_thinned : (o p : Operation) (ops : List Operation) → get ops o.id ≡ Some p → agree p o ≡ true → is_full o ≡ false
    → insert_entry id_cmp (by_id ops) o.id o ≡ by_id (put o ops)
inserted_thinned o p ops held agrees thinned = inserted o ops (λ q some.
    let same : p ≡ q = cc (sym held ∙ some) in
    ap (λ (x : Operation). meet x o) (sym same) ∙ sym (meets_thinned p o thinned agrees))

-- whether an operation differs from the one that is held
pub differs_not : (ops : List Operation) (o p : Operation) → get ops o.id ≡ Some p → agree p o ≡ true → differs (get ops o.id) o ≡ false
differs_not ops o p held agrees = ap (λ r. differs r o) held ∙ ap not agrees

pub differs_from : (ops : List Operation) (o p : Operation) → get ops o.id ≡ Some p → agree p o ≡ false → differs (get ops o.id) o ≡ true
differs_from ops o p held bad = ap (λ r. differs r o) held ∙ ap not bad

-- ---- sets that hold the same under the ids of some operations

abbrev SameAt : List Operation → List Operation → List Operation → Type 0
SameAt a b ops = AllByRecursion (λ o. get a o.id ≡ get b o.id) ops

clash_alike : (a b ops : List Operation) → SameAt a b ops → clash a ops ≡ clash b ops
clash_alike a b ops same = ap (option_map (λ (o : Operation). o.id)) (by ops same)
  where
    by : (ops : List Operation) → SameAt a b ops
        → find (λ (o : Operation). differs (get a o.id) o) ops ≡ find (λ (o : Operation). differs (get b o.id) o) ops
    by [] s = refl
    by (o ∷ ops) s = λ i. cond (differs (s.0 i) o) (Some o) (by ops s.1 i)

-- what is lacked before a clash, by the first operation and the rest
lacked_first : (held ops : List Operation) (o : Operation) → lacked held (before_clash held (o ∷ ops))
    ≡ cond (differs (get held o.id) o) []
    (cond (is_none (get held o.id)) (o ∷ lacked held (before_clash held ops)) (lacked held (before_clash held ops)))
lacked_first held ops o = by (differs (get held o.id) o)
  where
    by : (b : Bool) → lacked held (cond b [] (o ∷ before_clash held ops))
        ≡ cond b [] (cond (is_none (get held o.id)) (o ∷ lacked held (before_clash held ops)) (lacked held (before_clash held ops)))
    by true = refl
    by false = refl

lacked_alike : (a b ops : List Operation) → SameAt a b ops → lacked a (before_clash a ops) ≡ lacked b (before_clash b ops)
lacked_alike a b [] s = refl
lacked_alike a b (o ∷ ops) s =
    lacked_first a ops o
    ∙ (λ i. cond (differs (s.0 i) o) [] (cond (is_none (s.0 i)) (o ∷ lacked_alike a b ops s.1 i) (lacked_alike a b ops s.1 i)))
    ∙ sym (lacked_first b ops o)

-- ---- the walk over a bundle

-- what is held so far, and the walk over what is left of the bundle
pub record IsGathering (held all now walk : List Operation) : Type 0 where
  pub set : IsOpSet now
  pub rising : rises walk ≡ true
  pub union : join now walk ≡ join held all
  pub same_clash : clash now walk ≡ clash held all
  pub before : lacked held (before_clash held all) ≡ [] → lacked now (before_clash now walk) ≡ []

-- before the first operation
pub begins : (held all : List Operation) → IsOpSet held → IsOpSet all → IsGathering held all held all
begins held all h b = record { set = h; rising = b.rising; union = refl; same_clash = refl; before = λ none. none }

module _ (held all now walk rest : List Operation) (o : Operation) (k : IsGathering held all now walk) (next : walk ≡ o ∷ rest) where
  rising : rises (o ∷ rest) ≡ true
  rising = ap rises (sym next) ∙ k.rising

  -- under later ids the same is held with the operation
  all_same : (ops : List Operation) → AllAbove o.id ops → SameAt (put o now) now ops
  all_same [] above = tt
  all_same (p ∷ ops) above =
      let parts = and_parts (id_below o.id p.id) (list_all (λ q. id_below o.id q.id) ops) above in (
        get-put o now p.id k.set.rising
            ∙ ap (λ b. met (get now p.id) (cond b (Some o) None)) (apart_above p.id o.id parts.0)
            ∙ met_none (get now p.id),
        all_same ops parts.1,
      )

  same : SameAt (put o now) now rest
  same = all_same rest (rises_parts o rest rising).0

  middle : (x y : Option Operation) (b : Bool) → (b ≡ true → y ≡ None)
      → met (met x (cond b (Some o) None)) y ≡ met x (cond b (Some o) y)
  middle x y true h = rw (h refl) (met_none (met x (Some o)))
  middle x y false h = ap (λ z. met z y) (met_none x)

  -- the first operation may be put in before the rest
  put_before : join (put o now) rest ≡ join now (o ∷ rest)
  put_before =
      let parts = rises_parts o rest rising in
      same_gets (join (put o now) rest) (join now (o ∷ rest)) (rises-join (put o now) rest (rises-put o now k.set.rising))
      (rises-join now (o ∷ rest) k.set.rising)
      (λ q. get-join (put o now) rest q (rises-put o now k.set.rising) parts.1
      ∙ ap (λ x. met x (get rest q)) (get-put o now q k.set.rising)
      ∙ middle (get now q) (get rest q) (same_id q o.id) (λ s. ap (get rest) (id_from_same q o.id s) ∙ get_above o.id rest parts.0)
      ∙ sym (get-join now (o ∷ rest) q k.set.rising rising))

  -- it is put in where it agrees
  pub goes_on : IsOperation o → differs (get now o.id) o ≡ false → IsGathering held all (put o now) rest
  goes_on valid agrees = record {
    set = IsOpSet-put o now valid k.set;
    rising = (rises_parts o rest rising).1;
    union = put_before ∙ ap (join now) (sym next) ∙ k.union;
    same_clash =
        clash_alike (put o now) now rest same
        ∙ ap (option_map (λ (p : Operation). p.id))
        (sym (cond-false (differs (get now o.id) o) (Some o) (find (λ (p : Operation). differs (get now p.id) p) rest) agrees))
        ∙ ap (clash now) (sym next) ∙ k.same_clash;
    before = λ none.
        lacked_alike (put o now) now rest same
        ∙ tail (is_none (get now o.id))
        (sym (cond-false (differs (get now o.id) o) [] (cond (is_none (get now o.id)) (o ∷ later) later) agrees)
        ∙ sym (lacked_first now rest o) ∙ ap (λ ops. lacked now (before_clash now ops)) (sym next) ∙ k.before none);
  }
    where
      later : List Operation
      later = lacked now (before_clash now rest)

      tail : (b : Bool) → cond b (o ∷ later) later ≡ [] → later ≡ []
      tail true e = cc e
      tail false e = e

  -- and where it does not, its id is that of the first clash
  pub clashes : differs (get now o.id) o ≡ true → clash held all ≡ Some o.id
  clashes bad =
      sym k.same_clash ∙ ap (clash now) next
      ∙ ap (option_map (λ (p : Operation). p.id))
      (cond-true (differs (get now o.id) o) (Some o) (find (λ (p : Operation). differs (get now p.id) p) rest) bad)

  -- a new one is lacked before a clash
  pub is_lacked : get now o.id ≡ None → lacked held (before_clash held all) ≡ [] → ⊥
  is_lacked new none = some (sym (lacked_first now rest o ∙ (λ i. cond (differs (new i) o) [] (cond (is_none (new i)) (o ∷ later) later)))
      ∙ ap (λ ops. lacked now (before_clash now ops)) (sym next) ∙ k.before none)
    where
      later : List Operation
      later = lacked now (before_clash now rest)

      some : o ∷ later ≡ [] → ⊥
      some e = cc e

-- at its end the union is held
pub gathered : (held all now walk : List Operation) → IsGathering held all now walk → walk ≡ [] → now ≡ join held all
gathered held all now walk k none = ap (join now) (sym none) ∙ k.union

pub without_clash : (held all now walk : List Operation) → IsGathering held all now walk → walk ≡ [] → clash held all ≡ None
without_clash held all now walk k none = sym k.same_clash ∙ ap (clash now) none

pub gathered_legal : (held all : List Operation) → IsOpSet held → IsOpSet all → clash held all ≡ None → is_legal held ≡ true
    → is_legal all ≡ true → is_legal (join held all) ≡ true
gathered_legal held all h b none lh lb = join_legal held all h.rising b.rising lh lb (agree_from_no_clash held all none)

-- ---- operations in a replica that holds nothing

pub apart_from_none : (ops : List Operation) → AreApart [] ops
apart_from_none [] = tt
apart_from_none (o ∷ ops) = (refl, apart_from_none ops)

pub legal_from_none : (ops : List Operation) → IsOpSet ops → is_legal ops ≡ true → is_legal (join [] ops) ≡ true
legal_from_none ops h l = ap is_legal (join_none ops h.rising) ∙ l
