-- The entries of a segment, listed from what was gathered.
use Rattle.std.proofs.Common.{◌≡◌, ℕ, zero, suc, ◌+◌, ◌<◌, Bool, true, false, cond, ◌&&◌, ◌||◌, List, [], ◌∷◌, ◌++◌, length, take, get_or, map, filter, reverse, Option, Some, None, is_some, Vec, option_map, arith, refl, sym, ap, ◌∙◌}
use Rattle.std.specs.Option.{unwrap_or}
use Rattle.std.specs.BTreeMap.{BTreeMap, get as value_at}
use Rattle.std.specs.BTreeSet.{BTreeSet, contains}
use Rattle.std.specs.List.{list_any}
use Rattle.std.specs.List.Retain.{IsFiltered, DiffersFromLast}
use Rattle.std.specs.List.Sorted.{IsSorted, IsPermutation}
use Rattle.std.proofs.lemmas.Bool.{or_right}
use Rattle.std.proofs.lemmas.List.{map-id, map_more, flat_map_more, take_more}
use Rattle.usfm_ref.specs.Rising.{rising}
use Rattle.usfm_ref.specs.Segments.{segment_cmp, same_segment}
use Rattle.usfm_ref.specs.declared.segment.Segment.{Segment}
use Rattle.usfm_ref.proofs.Once.{sorted_once}
use Rattle.usfm_ref.proofs.Orders.{same_segment-is, same_segment-refl}
use Rattle.op_core.specs.Ids.{Id, id_cmp, same_id}
use Rattle.op_core.specs.Equal.{same_id-refl}
use Rattle.op_core.specs.Lists.{ids_of}
use Rattle.op_core.specs.Ops.{Operation, in_segment, names}
use Rattle.op_core.specs.Sets.{rises}
use Rattle.op_core.proofs.IdOrders.Rising.{id_total, same_id-cmp}
use Rattle.segment_history.proofs.HistoryLaws.{id_exact}
use Rattle.op_core.proofs.Sets.Filters.{rises-filter}
use Rattle.segment_history.specs.Histories.{EntryParts, HistoryParts, entry_of, awaited_in, entries_with, of_segment, is_lacking, entries_at, history}
use Rattle.segment_history.specs.declared.entry.Kept.{Kept}
use Rattle.segment_history.specs.Loops.Gathering.{ops_under, ops_of, is_one_of, HasSegments, is_naming, HasAwaited, ids_under, HasReplacers}
use Rattle.segment_history.specs.Loops.Texts.{kept_under, HasTexts}

-- ---- ids, each once

pub listed_once : (items sorted once : List Id) → IsPermutation items sorted → IsSorted id_cmp sorted
    → IsFiltered (DiffersFromLast same_id) [] sorted once → once ≡ rising id_cmp items
listed_once items sorted once p s f =
    sym (map-id once) ∙ sorted_once (λ (i : Id). i) id_cmp id_total id_exact same_id same_id-cmp items sorted once p s f
    ∙ ap (rising id_cmp) (map-id items)

-- the awaited ids of one operation more
pub awaited_more : (p : Id → Bool) (ops : List Operation) (i : ℕ) (o : Operation) (own ids more : List Id) → i < length ops
    → o ≡ get_or ops i o → more ≡ ids ++ filter p o.replaced → ids ≡ own ++ awaited_in (take i ops) p
    → more ≡ own ++ awaited_in (take (i + 1) ops) p
awaited_more p ops i o own ids more l is pushed so =
    pushed ∙ ap (λ (xs : List Id). xs ++ filter p o.replaced) so ∙ flat_map_more (λ (q : Operation). filter p q.replaced) own (take i ops) o
    ∙ ap (λ (os : List Operation). own ++ awaited_in os p) (ap (λ (q : Operation). take i ops ++ q ∷ []) is ∙ sym (take_more ops i o l))

-- ---- the entries of operations

pub entry_more : {A : Type 0} (ops : List Operation) (ids : List Id) (i : ℕ) (id : Id) (m : BTreeMap Id Kept)
    (n : BTreeMap Id (Vec Id A)) (made more : List EntryParts) (e : EntryParts) → i < length ids → id ≡ get_or ids i id
    → HasTexts ops m → HasReplacers ops n
    → e ≡ record { id = id; kept = kept_under m id; replaced_by = ids_under n id }
    → more ≡ made ++ e ∷ [] → made ≡ map (entry_of ops) (take i ids) → more ≡ map (entry_of ops) (take (i + 1) ids)
entry_more ops ids i id m n made more e l is texts replacers told pushed so =
    pushed ∙ (λ k. so k ++ right k ∷ []) ∙ sym (map_more (entry_of ops) ids i id l)
  where
    right : e ≡ entry_of ops (get_or ids i id)
    right = told ∙ (λ k. record { id = id; kept = texts id k; replaced_by = replacers id k }) ∙ ap (entry_of ops) is

-- ---- what is awaited, of what the gathered operations name

filter_same : (p r : Id → Bool) (ids : List Id) → ((q : Id) → list_any (same_id q) ids ≡ true → p q ≡ r q) → filter p ids ≡ filter r ids
filter_same p r [] h = refl
filter_same p r (n ∷ ids) h =
    let here : p n ≡ r n = h n (ap (λ b. b || list_any (same_id n) ids) (same_id-refl n)) in
    let rest = filter_same p r ids (λ q t. h q (or_right (same_id q n) (list_any (same_id q) ids) t)) in
    λ i. cond (here i) (n ∷ rest i) (rest i)

module _ {A : Type 0} (m : BTreeMap Segment (Vec Operation A)) (g : Segment) (there : is_some (value_at segment_cmp m g) ≡ true)
    (p r : Id → Bool) where
  awaited_same : (ops : List Operation) → ((q : Id) → list_any (is_naming m q) ops ≡ true → p q ≡ r q)
      → awaited_in (of_segment ops g) p ≡ awaited_in (of_segment ops g) r
  awaited_same [] h = refl
  awaited_same (o ∷ ops) h =
      by (awaited_same ops (λ q t. h q (or_right (is_naming m q o) (list_any (is_naming m q) ops) t))) (same_segment o.segment g) refl
    where
      naming : same_segment o.segment g ≡ true → (q : Id) → names o q ≡ true → p q ≡ r q
      naming s q t =
          h q (ap (λ b. b || list_any (is_naming m q) ops)
          ((λ i. (ap (λ (k : Segment). is_some (value_at segment_cmp m k)) (same_segment-is o.segment g s) ∙ there) i && t i)))

      by : awaited_in (of_segment ops g) p ≡ awaited_in (of_segment ops g) r → (b : Bool) → same_segment o.segment g ≡ b
          → awaited_in (cond b (o ∷ of_segment ops g) (of_segment ops g)) p
          ≡ awaited_in (cond b (o ∷ of_segment ops g) (of_segment ops g)) r
      by rest true s = λ i. filter_same p r o.replaced (naming s) i ++ rest i
      by rest false s = rest

any_at : (gs : List Segment) (i : ℕ) (k : Segment) → i < length gs → k ≡ get_or gs i k → is_one_of gs k ≡ true
any_at [] i k l is = absurd (omega (arith, l))
any_at (g ∷ gs) zero k l is =
    ap (λ b. b || is_one_of gs k) (ap (same_segment k) (sym is) ∙ same_segment-refl k)
any_at (g ∷ gs) (suc i) k l is = or_right (same_segment k g) (is_one_of gs k) (any_at gs i k (omega (arith, l)) is)

module _ {A : Type 0} (held : List Operation) (segments : List Segment) (m : BTreeMap Segment (Vec Operation A))
    (has : HasSegments held segments m) (i : ℕ) (k : Segment) (l : i < length segments) (is : k ≡ get_or segments i k) where
  under : ops_under m k ≡ Some (of_segment held k)
  under = has k ∙ ap (λ b. cond b (Some (of_segment held k)) None) (any_at segments i k l is)

  -- what was gathered of one of the segments
  pub ops_are : ops_of m k ≡ of_segment held k
  ops_are = ap (λ u. unwrap_or u []) under

  pub gathered_rises : rises held ≡ true → rises (ops_of m k) ≡ true
  gathered_rises rise = ap rises ops_are ∙ rises-filter (in_segment k) held rise

  there : is_some (value_at segment_cmp m k) ≡ true
  there = by (value_at segment_cmp m k) ∙ ap is_some under
    where
      by : (v : Option (Vec Operation A)) → is_some v ≡ is_some (option_map (λ x. x.items) v)
      by None = refl
      by (Some v) = refl

  module _ (s : BTreeSet Id) (awaited : HasAwaited held m s) where
    entries_are : entries_with (ops_of m k) (contains id_cmp s) ≡ entries_at held k
    entries_are =
        ap (λ (ops : List Operation). entries_with ops (contains id_cmp s)) ops_are
        ∙ ap (λ (ids : List Id). map (entry_of (of_segment held k)) (reverse (rising id_cmp (ids_of (of_segment held k) ++ ids))))
        (awaited_same m k there (contains id_cmp s) (is_lacking held) held (λ q t. awaited q ∙ ap (λ b. b && is_lacking held q) t))

    pub history_more : (made more : List HistoryParts) (h : HistoryParts)
        → h ≡ record { segment = k; entries = entries_with (ops_of m k) (contains id_cmp s) }
        → more ≡ made ++ h ∷ [] → made ≡ map (history held) (take i segments) → more ≡ map (history held) (take (i + 1) segments)
    history_more made more h told pushed so =
        pushed ∙ (λ j. so j ++ right j ∷ []) ∙ sym (map_more (history held) segments i k l)
      where
        right : h ≡ history held (get_or segments i k)
        right = told ∙ (λ j. record { segment = k; entries = entries_are j }) ∙ ap (history held) is
