-- Laws of histories.
use Rattle.std.proofs.Common.{◌≡◌, ℕ, Bool, true, false, cond, not, ◌&&◌, ◌||◌, List, [], ◌∷◌, ◌++◌, map, filter, reverse, Option, None, Some, refl, sym, ap, ◌∙◌}
use Rattle.std.specs.List.{list_any, AllByRecursion}
use Rattle.std.specs.declared.cmp.Ordering.TheVariants.{Equal}
use Rattle.std.specs.Ordering.{is_eq}
use Rattle.std.proofs.lemmas.List.{append-nil, reverse-append, reverse-reverse}
use Rattle.std.proofs.lemmas.List.Elements.{filter-append}
use Rattle.std.proofs.lemmas.List.Sorted.{list_any-IsPermutation, IsPermutation-reverse}
use Rattle.std.proofs.lemmas.List.Folds.{list_any-append}
use Rattle.usfm_ref.specs.Rising.{rising}
use Rattle.usfm_ref.specs.declared.segment.Segment.{Segment}
use Rattle.usfm_ref.proofs.Members.{tested_rising}
use Rattle.usfm_ref.proofs.Sorted.{rises-rising, rises_filter}
use Rattle.op_core.specs.Ids.{Id, id_cmp, same_id, ids_rise, is_none_left}
use Rattle.op_core.specs.Equal.{id_from_same}
use Rattle.op_core.specs.Lists.{ids_of, shown_ids}
use Rattle.op_core.specs.NextIds.{is_among}
use Rattle.op_core.specs.Ops.{Operation, bare, in_segment, names}
use Rattle.op_core.specs.Sets.{IsOpSet, get}
use Rattle.op_core.specs.Shown.{shown, is_shown, is_replaced}
use Rattle.op_core.specs.Thinned.{skeleton}
use Rattle.op_core.proofs.FilteredLists.{filter_both, any_filter, any_map, any_flat}
use Rattle.op_core.proofs.IdOrders.Rising.{id_total, same_id-cmp}
use Rattle.op_core.proofs.IdOrders.IdLists.{same_members}
use Rattle.op_core.proofs.Sets.Filters.{rises-filter}
use Rattle.op_core.proofs.ThinnedSets.Bare.{ids_same, held_same}
use Rattle.bundle_codec.proofs.SoFar.{ids_of_rise}
use Rattle.segment_history.specs.Histories.{with_text, kept_of, entry_of, replaced_by, awaited_in, ids_with, of_segment, is_lacking, ids_at, entries_at}
use Rattle.segment_history.specs.Laws.{told_ids, is_held_at, is_awaited_at, HistoryTellsIds, is_told_shown, HistoryShows, naming_ops, HistoryTellsReplacers, kept_bare, entry_bare, SkeletonTells}

-- ---- the ids that are told of

told_are : (ops : List Operation) (ids : List Id) → told_ids (map (entry_of ops) ids) ≡ ids
told_are ops [] = refl
told_are ops (id ∷ ids) = ap (λ (xs : List Id). id ∷ xs) (told_are ops ids)

any_tied : (q : Id) (ids : List Id) → is_among ids q ≡ list_any (λ x. is_eq (id_cmp q x)) ids
any_tied q [] = refl
any_tied q (x ∷ ids) = λ i. same_id-cmp q x i || any_tied q ids i

-- ids that their order does not tell apart are one
pub id_exact : (a b : Id) → id_cmp a b ≡ Equal → a ≡ b
id_exact a b h = id_from_same a b (same_id-cmp a b ∙ ap is_eq h)

among_rising : (q : Id) (ids : List Id) → is_among (rising id_cmp ids) q ≡ is_among ids q
among_rising q ids =
    any_tied q (rising id_cmp ids) ∙ tested_rising id_cmp id_total id_exact q ids ∙ sym (any_tied q ids)

among_reverse : (q : Id) (ids : List Id) → is_among (reverse ids) q ≡ is_among ids q
among_reverse q ids = sym (list_any-IsPermutation (same_id q) ids (reverse ids) (IsPermutation-reverse ids))

both_same : (p : Id → Bool) (q x : Id) → (p x && same_id q x) ≡ (same_id q x && p q)
both_same p q x = by (same_id q x) refl
  where
    flat : (b : Bool) → (b && false) ≡ false
    flat true = refl
    flat false = refl

    yes : (b : Bool) → (b && true) ≡ b
    yes true = refl
    yes false = refl

    by : (b : Bool) → same_id q x ≡ b → (p x && b) ≡ (b && p q)
    by true e = yes (p x) ∙ ap p (sym (id_from_same q x e))
    by false e = flat (p x)

any_and : {X : Type 0} (f : X → Bool) (b : Bool) (xs : List X) → list_any (λ x. f x && b) xs ≡ (list_any f xs && b)
any_and f b [] = refl
any_and f b (x ∷ xs) = ap (λ c. (f x && b) || c) (any_and f b xs) ∙ by (f x) b (list_any f xs)
  where
    by : (a b c : Bool) → ((a && b) || (c && b)) ≡ ((a || c) && b)
    by true true c = refl
    by true false true = refl
    by true false false = refl
    by false b c = refl

among_filter : (p : Id → Bool) (q : Id) (ids : List Id) → is_among (filter p ids) q ≡ (is_among ids q && p q)
among_filter p q ids =
    any_filter (same_id q) p ids ∙ (λ i. list_any (λ (x : Id). both_same p q x i) ids) ∙ any_and (same_id q) (p q) ids

-- an awaited id is among those that operations name
among_awaited : (p : Id → Bool) (ops : List Operation) (q : Id)
    → is_among (awaited_in ops p) q ≡ (list_any (λ o. names o q) ops && p q)
among_awaited p ops q =
    any_flat (same_id q) (λ (o : Operation). filter p o.replaced) ops ∙ (λ i. list_any (λ (o : Operation). one o i) ops)
    ∙ any_and (λ (o : Operation). names o q) (p q) ops
  where
    one : (o : Operation) → is_among (filter p o.replaced) q ≡ (names o q && p q)
    one o = among_filter p q o.replaced

replaced_in : (held : List Operation) (g : Segment) (q : Id) → list_any (λ o. names o q) (of_segment held g) ≡ is_replaced held g q
replaced_in held g q = any_filter (λ (o : Operation). names o q) (in_segment g) held

-- what is among the ids of a segment
among_at : (held : List Operation) (g : Segment) (q : Id) → is_among (ids_at held g) q ≡ (is_held_at held g q || is_awaited_at held g q)
among_at held g q =
    among_rising q (ids_of (of_segment held g) ++ awaited_in (of_segment held g) (is_lacking held))
    ∙ list_any-append (same_id q) (ids_of (of_segment held g)) (awaited_in (of_segment held g) (is_lacking held))
    ∙ (λ i. any_map (same_id q) (λ (o : Operation). o.id) (of_segment held g) i
    || (among_awaited (is_lacking held) (of_segment held g) q ∙ ap (λ b. b && is_lacking held q) (replaced_in held g q)) i)

at_rise : (held : List Operation) (g : Segment) → ids_rise (ids_at held g) ≡ true
at_rise held g = rises-rising id_cmp id_total (ids_of (of_segment held g) ++ awaited_in (of_segment held g) (is_lacking held))

pub history_tells_ids : HistoryTellsIds
history_tells_ids held g =
    let same = told_are (of_segment held g) (reverse (ids_at held g)) in
    record {
      falling = ap (λ (xs : List Id). ids_rise (reverse xs)) same ∙ ap ids_rise (reverse-reverse (ids_at held g)) ∙ at_rise held g;
      exactly = λ q.
          ap (λ (xs : List Id). is_among xs q) same ∙ among_reverse q (ids_at held g) ∙ among_at held g q;
    }

-- ---- what is shown

filter_told : (ops : List Operation) (ids : List Id)
    → told_ids (filter is_told_shown (map (entry_of ops) ids)) ≡ filter (λ id. is_none_left (replaced_by ops id)) ids
filter_told ops [] = refl
filter_told ops (id ∷ ids) = by (filter_told ops ids) (is_none_left (replaced_by ops id))
  where
    by : told_ids (filter is_told_shown (map (entry_of ops) ids)) ≡ filter (λ q. is_none_left (replaced_by ops q)) ids
        → (b : Bool) → told_ids (cond b (entry_of ops id ∷ filter is_told_shown (map (entry_of ops) ids))
        (filter is_told_shown (map (entry_of ops) ids)))
        ≡ cond b (id ∷ filter (λ q. is_none_left (replaced_by ops q)) ids) (filter (λ q. is_none_left (replaced_by ops q)) ids)
    by rest true = ap (λ (xs : List Id). id ∷ xs) rest
    by rest false = rest

none_by : (ops : List Operation) (id : Id) → is_none_left (replaced_by ops id) ≡ not (list_any (λ o. names o id) ops)
none_by [] id = refl
none_by (o ∷ ops) id = by (none_by ops id) (names o id)
  where
    by : is_none_left (replaced_by ops id) ≡ not (list_any (λ p. names p id) ops) → (b : Bool)
        → is_none_left (ids_of (cond b (o ∷ filter (λ p. names p id) ops) (filter (λ p. names p id) ops)))
        ≡ not (b || list_any (λ p. names p id) ops)
    by rest true = refl
    by rest false = rest

module _ (held : List Operation) (g : Segment) (set : IsOpSet held) where
  abbrev test : Id → Bool
  test id = is_none_left (replaced_by (of_segment held g) id)

  test_is : (q : Id) → is_none_left (replaced_by (of_segment held g) q) ≡ not (is_replaced held g q)
  test_is q = none_by (of_segment held g) q ∙ ap not (replaced_in held g q)

  table : (h r l : Bool) → ((h || (r && l)) && not r) ≡ (h && not r)
  table true true l = refl
  table true false l = refl
  table false true true = refl
  table false true false = refl
  table false false l = refl

  shown_among : (q : Id) → is_among (shown_ids held g) q ≡ (is_held_at held g q && not (is_replaced held g q))
  shown_among q =
      any_map (same_id q) (λ (o : Operation). o.id) (shown held g)
      ∙ any_filter (λ (o : Operation). same_id q o.id) (is_shown held g) held
      ∙ (λ i. list_any (λ (o : Operation). one o i) held)
      ∙ any_and (λ (o : Operation). in_segment g o && same_id q o.id) (not (is_replaced held g q)) held
      ∙ ap (λ b. b && not (is_replaced held g q)) (sym (any_filter (λ (o : Operation). same_id q o.id) (in_segment g) held))
    where
      one : (o : Operation) → (is_shown held g o && same_id q o.id) ≡ ((in_segment g o && same_id q o.id) && not (is_replaced held g q))
      one o = by (in_segment g o)
        where
          by : (b : Bool) → ((b && not (is_replaced held g o.id)) && same_id q o.id) ≡ ((b && same_id q o.id) && not (is_replaced held g q))
          by true = both_same (λ (x : Id). not (is_replaced held g x)) q o.id
          by false = refl

  shown_are : filter test (ids_at held g) ≡ shown_ids held g
  shown_are = same_members (filter test (ids_at held g)) (shown_ids held g)
      (rises_filter id_cmp id_total (λ (id : Id). id) test (ids_at held g) (at_rise held g))
      (ids_of_rise (shown held g) ∙ rises-filter (is_shown held g) held set.rising)
      (λ q. among_filter test q (ids_at held g)
      ∙ (λ i. among_at held g q i && test_is q i)
      ∙ table (is_held_at held g q) (is_replaced held g q) (is_lacking held q)
      ∙ sym (shown_among q))

filter_reverse : {X : Type 0} (p : X → Bool) (xs : List X) → filter p (reverse xs) ≡ reverse (filter p xs)
filter_reverse p [] = refl
filter_reverse {X} p (x ∷ xs) =
    ap (filter p) (reverse-append (x ∷ []) xs) ∙ filter-append p (reverse xs) (x ∷ [])
    ∙ ap (λ (ys : List X). ys ++ filter p (x ∷ [])) (filter_reverse p xs) ∙ by (p x)
  where
    by : (b : Bool) → reverse (filter p xs) ++ cond b (x ∷ []) [] ≡ reverse (cond b (x ∷ filter p xs) (filter p xs))
    by true = sym (reverse-append (x ∷ []) (filter p xs))
    by false = append-nil (reverse (filter p xs))

pub history_shows : HistoryShows
history_shows held g set =
    filter_told (of_segment held g) (reverse (ids_at held g))
    ∙ filter_reverse (λ (id : Id). is_none_left (replaced_by (of_segment held g) id)) (ids_at held g)
    ∙ ap reverse (shown_are held g set)

-- ---- what replaces

pub history_tells_replacers : HistoryTellsReplacers
history_tells_replacers held g = each (reverse (ids_at held g))
  where
    each : (ids : List Id)
        → AllByRecursion (λ e. e.replaced_by ≡ ids_of (naming_ops held g e.id)) (map (entry_of (of_segment held g)) ids)
    each [] = tt
    each (id ∷ ids) = (
      ap ids_of
          (filter_both (λ (o : Operation). names o id) (in_segment g) (λ o. in_segment g o && names o id) (λ o. refl) held),
      each ids,
    )

-- ---- texts that were left out

-- operations that pass a test which looks at no text, without their texts
passing_bare : (p : Operation → Bool) (ops : List Operation) → skeleton (filter (λ o. p (bare o)) ops) ≡ filter p (skeleton ops)
passing_bare p [] = refl
passing_bare p (o ∷ ops) = by (passing_bare p ops) (p (bare o))
  where
    by : skeleton (filter (λ q. p (bare q)) ops) ≡ filter p (skeleton ops) → (b : Bool)
        → skeleton (cond b (o ∷ filter (λ q. p (bare q)) ops) (filter (λ q. p (bare q)) ops))
        ≡ cond b (bare o ∷ filter p (skeleton ops)) (filter p (skeleton ops))
    by rest true = ap (λ (xs : List Operation). bare o ∷ xs) rest
    by rest false = rest

twice_bare : (ops : List Operation) → skeleton ops ≡ skeleton (skeleton ops)
twice_bare [] = refl
twice_bare (o ∷ ops) = ap (λ (xs : List Operation). bare o ∷ xs) (twice_bare ops)

ids_bare : (ops : List Operation) → ids_of ops ≡ ids_of (skeleton ops)
ids_bare ops = ids_same ops (skeleton ops) (twice_bare ops)

module _ (s : List Operation) (g : Segment) where
  segment_bare : skeleton (of_segment s g) ≡ of_segment (skeleton s) g
  segment_bare = passing_bare (in_segment g) s

  replaced_bare : (ops : List Operation) (id : Id) → replaced_by ops id ≡ replaced_by (skeleton ops) id
  replaced_bare ops id =
      ids_bare (filter (λ (o : Operation). names o id) ops) ∙ ap ids_of (passing_bare (λ (o : Operation). names o id) ops)

  lacking_bare : (id : Id) → is_lacking s id ≡ is_lacking (skeleton s) id
  lacking_bare id = ap not (held_same s (skeleton s) (twice_bare s) id)

  awaited_bare : (p : Id → Bool) (ops : List Operation) → awaited_in ops p ≡ awaited_in (skeleton ops) p
  awaited_bare p [] = refl
  awaited_bare p (o ∷ ops) = ap (λ (xs : List Id). filter p o.replaced ++ xs) (awaited_bare p ops)

  ids_bare_at : ids_at s g ≡ ids_at (skeleton s) g
  ids_bare_at =
      (λ i. rising id_cmp (ids_bare (of_segment s g) i ++ awaited_bare (is_lacking s) (of_segment s g) i))
      ∙ (λ i. ids_with (segment_bare i) (λ id. lacking_bare id i))

  kept_is_bare : (id : Id) (ops : List Operation) → kept_bare (kept_of (get ops id)) ≡ kept_of (get (skeleton ops) id)
  kept_is_bare id [] = refl
  kept_is_bare id (o ∷ ops) = by (same_id id o.id) (kept_is_bare id ops) o.text
    where
      text : (t : Option (List ℕ)) → kept_bare (with_text t) ≡ with_text None
      text None = refl
      text (Some t) = refl

      by : (b : Bool) → kept_bare (kept_of (get ops id)) ≡ kept_of (get (skeleton ops) id) → (t : Option (List ℕ))
          → kept_bare (kept_of (cond b (Some o) (get ops id))) ≡ kept_of (cond b (Some (bare o)) (get (skeleton ops) id))
      by true rest t = text o.text
      by false rest t = rest

  entries_bare : (ids : List Id)
      → map entry_bare (map (entry_of (of_segment s g)) ids) ≡ map (entry_of (of_segment (skeleton s) g)) ids
  entries_bare [] = refl
  entries_bare (id ∷ ids) = λ i. one i ∷ entries_bare ids i
    where
      one : entry_bare (entry_of (of_segment s g) id) ≡ entry_of (of_segment (skeleton s) g) id
      one =
          (λ i. record {
            id = id;
            kept = kept_is_bare id (of_segment s g) i;
            replaced_by = replaced_bare (of_segment s g) id i;
          })
          ∙ ap (λ (ops : List Operation). entry_of ops id) segment_bare

  bare_tells : map entry_bare (entries_at s g) ≡ entries_at (skeleton s) g
  bare_tells =
      entries_bare (reverse (ids_at s g))
      ∙ ap (λ (ids : List Id). map (entry_of (of_segment (skeleton s) g)) (reverse ids)) ids_bare_at

pub skeleton_tells : SkeletonTells
skeleton_tells s t g same =
    bare_tells s g ∙ ap (λ (u : List Operation). entries_at u g) same ∙ sym (bare_tells t g)
