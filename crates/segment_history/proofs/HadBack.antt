-- What a set shows after an edit by which a segment has a text back.
use Rattle.std.proofs.Common.{◌≡◌, ℕ, Bool, true, false, cond, not, ◌||◌, List, [], ◌∷◌, ◌++◌, map, filter, refl, sym, ap, ◌∙◌, append-nil}
use Rattle.std.specs.List.{list_any, AllByRecursion}
use Rattle.std.proofs.Math.Bool.{or-false}
use Rattle.std.proofs.lemmas.Bool.{or_parts, or_right, cond-true}
use Rattle.std.proofs.lemmas.List.Elements.{filter-append}
use Rattle.std.proofs.lemmas.List.Folds.{list_any-append}
use Rattle.usfm_ref.specs.Books.{same_bytes}
use Rattle.usfm_ref.specs.declared.segment.Segment.{Segment}
use Rattle.usfm_ref.proofs.Orders.{same_bytes-is, same_bytes-refl, same_segment-refl}
use Rattle.op_core.specs.Equal.{same_id-refl}
use Rattle.op_core.specs.Ids.{Id, same_id}
use Rattle.op_core.specs.Lists.{ids_of, shown_ids}
use Rattle.op_core.specs.Ops.{Operation, in_segment, names}
use Rattle.op_core.specs.Shown.{shown, text_of, text_if_any, last}
use Rattle.op_core.proofs.FilteredLists.{any_map, filter_none}
use Rattle.segment_history.specs.Histories.{of_segment}
use Rattle.segment_history.specs.Restores.{RestoredParts}
use Rattle.segment_history.specs.RestoreLaws.{IsNew, made_by, after, RestoredOverShown, RestoredIsPicked, RestoredIsAlone, OthersStay, RestoredOnce}
use Rattle.segment_history.proofs.ShownLists.{unnamed, shown_unnamed}

-- ---- lists in which a test passes nowhere

none_filtered : {X : Type 0} (p q : X → Bool) (xs : List X) → list_any p xs ≡ false → list_any p (filter q xs) ≡ false
none_filtered p q [] h = refl
none_filtered {X} p q (x ∷ xs) h = let parts = or_parts (p x) (list_any p xs) h in by parts.0 (none_filtered p q xs parts.1) (q x)
  where
    by : p x ≡ false → list_any p (filter q xs) ≡ false → (b : Bool) → list_any p (cond b (x ∷ filter q xs) (filter q xs)) ≡ false
    by here rest true = λ i. here i || rest i
    by here rest false = rest

none_each : {X : Type 0} (p : X → Bool) (xs : List X) → AllByRecursion (λ x. p x ≡ false) xs → list_any p xs ≡ false
none_each p [] h = refl
none_each p (x ∷ xs) h = λ i. h.0 i || none_each p xs h.1 i

-- ---- an operation that passes is among those that do

module _ (q : Operation → Bool) where
  among : (ops : List Operation) → AllByRecursion (λ o. q o ≡ true → list_any (same_id o.id) (ids_of (filter q ops)) ≡ true) ops
  among [] = tt
  among (o ∷ ops) = (here, lifted ops (among ops))
    where
      front : (b : Bool) → b ≡ true
          → list_any (same_id o.id) (ids_of (cond b (o ∷ filter q ops) (filter q ops))) ≡ true
      front true h = ap (λ b. b || list_any (same_id o.id) (ids_of (filter q ops))) (same_id-refl o.id)
      front false h = cc h

      here : q o ≡ true → list_any (same_id o.id) (ids_of (filter q (o ∷ ops))) ≡ true
      here h = front (q o) h

      more : (id : Id) → (b : Bool) → list_any (same_id id) (ids_of (filter q ops)) ≡ true
          → list_any (same_id id) (ids_of (cond b (o ∷ filter q ops) (filter q ops))) ≡ true
      more id true h = or_right (same_id id o.id) (list_any (same_id id) (ids_of (filter q ops))) h
      more id false h = h

      lifted : (ps : List Operation)
          → AllByRecursion (λ p. q p ≡ true → list_any (same_id p.id) (ids_of (filter q ops)) ≡ true) ps
          → AllByRecursion (λ p. q p ≡ true → list_any (same_id p.id) (ids_of (filter q (o ∷ ops))) ≡ true) ps
      lifted [] h = tt
      lifted (p ∷ ps) h = ((λ t. more p.id (q o) (h.0 t)), lifted ps h.1)

-- ---- operations of one segment, and one more that names all that none of them names

module _ (ops : List Operation) (e : Operation) (over : e.replaced ≡ ids_of (unnamed ops)) where
  abbrev named_by : Id → Bool
  named_by id = list_any (λ p. names p id) ops

  -- whether an operation is left of these and the one more
  abbrev left : Operation → Bool
  left o = not (list_any (λ p. names p o.id) (ops ++ e ∷ []))

  left_is : (o : Operation) → left o ≡ not (named_by o.id || names e o.id)
  left_is o =
      ap not (list_any-append (λ (p : Operation). names p o.id) ops (e ∷ []) ∙ ap (λ b. named_by o.id || b) (or-false (names e o.id)))

  gone : (o : Operation) → (not (named_by o.id) ≡ true → list_any (same_id o.id) (ids_of (unnamed ops)) ≡ true) → left o ≡ false
  gone o kept = left_is o ∙ by (named_by o.id) kept
    where
      by : (b : Bool) → (not b ≡ true → list_any (same_id o.id) (ids_of (unnamed ops)) ≡ true) → not (b || names e o.id) ≡ false
      by true k = refl
      by false k = ap not (ap (λ (ids : List Id). list_any (same_id o.id) ids) over ∙ k refl)

  all_gone : AllByRecursion (λ o. left o ≡ false) ops
  all_gone = each ops (among (λ o. not (named_by o.id)) ops)
    where
      each : (ps : List Operation)
          → AllByRecursion (λ o. not (named_by o.id) ≡ true → list_any (same_id o.id) (ids_of (unnamed ops)) ≡ true) ps
          → AllByRecursion (λ o. left o ≡ false) ps
      each [] h = tt
      each (p ∷ ps) h = (gone p h.0, each ps h.1)

  pub alone : list_any (λ p. names p e.id) ops ≡ false → list_any (λ p. same_id e.id p.id) ops ≡ false
      → unnamed (ops ++ e ∷ []) ≡ e ∷ []
  alone unnamed_id unheld =
      filter-append left ops (e ∷ [])
      ∙ (λ i. filter_none left ops (none_each left ops all_gone) i ++ cond (stays i) (e ∷ []) [])
    where
      own : names e e.id ≡ false
      own = ap (λ (ids : List Id). list_any (same_id e.id) ids) over
          ∙ any_map (same_id e.id) (λ (o : Operation). o.id) (unnamed ops)
          ∙ none_filtered (λ (o : Operation). same_id e.id o.id) (λ o. not (named_by o.id)) ops unheld

      stays : left e ≡ true
      stays = left_is e ∙ (λ i. not (unnamed_id i || own i))

-- ---- a set with the edit

abbrev edit : List Operation → Segment → List ℕ → RestoredParts
edit held g text = record { segment = g; text = text; ids = shown_ids held g }

module _ (held : List Operation) (g : Segment) (text : List ℕ) (id : Id) where
  of_more : of_segment (held ++ made_by id (edit held g text) ∷ []) g ≡ of_segment held g ++ made_by id (edit held g text) ∷ []
  of_more =
      filter-append (in_segment g) held (made_by id (edit held g text) ∷ [])
      ∙ (λ i. of_segment held g ++ cond (same_segment-refl g i) (made_by id (edit held g text) ∷ []) [])

  pub shown_alone : IsNew held id → shown (held ++ made_by id (edit held g text) ∷ []) g ≡ made_by id (edit held g text) ∷ []
  shown_alone new =
      shown_unnamed (held ++ made_by id (edit held g text) ∷ []) g ∙ ap unnamed of_more
      ∙ alone (of_segment held g) (made_by id (edit held g text)) (ap ids_of (shown_unnamed held g))
      (none_filtered (λ (o : Operation). names o id) (in_segment g) held new.unnamed)
      (none_filtered (λ (o : Operation). same_id id o.id) (in_segment g) held new.unheld)

pub restored_over_shown : RestoredOverShown
restored_over_shown held g text = by (same_bytes (text_of held g) text)
  where
    by : (b : Bool) → AllByRecursion (λ r. r.ids ≡ shown_ids held g) (cond b [] (edit held g text ∷ []))
    by true = tt
    by false = (refl, tt)

pub restored_is_alone : RestoredIsAlone
restored_is_alone held g text id new = by (same_bytes (text_of held g) text)
  where
    by : (b : Bool) → AllByRecursion (λ r. shown (held ++ made_by id r ∷ []) g ≡ made_by id r ∷ []) (cond b [] (edit held g text ∷ []))
    by true = tt
    by false = (shown_alone held g text id new, tt)

pub restored_is_picked : RestoredIsPicked
restored_is_picked held g text id new = by (same_bytes (text_of held g) text) refl
  where
    by : (b : Bool) → same_bytes (text_of held g) text ≡ b
        → text_of (held ++ map (made_by id) (cond b [] (edit held g text ∷ []))) g ≡ text
    by true h = ap (λ (ops : List Operation). text_of ops g) (append-nil held) ∙ same_bytes-is (text_of held g) text h
    by false h = ap (λ (ops : List Operation). text_if_any (last ops)) (shown_alone held g text id new)

pub others_stay : OthersStay
others_stay held g h text id apart = by (same_bytes (text_of held g) text)
  where
    other : of_segment (held ++ made_by id (edit held g text) ∷ []) h ≡ of_segment held h
    other =
        filter-append (in_segment h) held (made_by id (edit held g text) ∷ [])
        ∙ (λ i. of_segment held h ++ cond (apart i) (made_by id (edit held g text) ∷ []) [])
        ∙ append-nil (of_segment held h)

    by : (b : Bool) → shown (held ++ map (made_by id) (cond b [] (edit held g text ∷ []))) h ≡ shown held h
    by true = ap (λ (ops : List Operation). shown ops h) (append-nil held)
    by false = shown_unnamed (held ++ made_by id (edit held g text) ∷ []) h ∙ ap unnamed other ∙ sym (shown_unnamed held h)

pub restored_once : RestoredOnce
restored_once held g text id new =
    ap (λ (own : List ℕ). cond (same_bytes own text) [] (edit (after held id g text) g text ∷ []))
    (restored_is_picked held g text id new)
    ∙ cond-true _ _ _ (same_bytes-refl text)
