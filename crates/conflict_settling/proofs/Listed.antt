-- What a question lists is what its segment shows, and what it does not list stays.
use Rattle.std.proofs.Common.{◌≡◌, ◌⊎◌, ℕ, zero, suc, Bool, true, false, not, cond, ◌&&◌, ◌||◌, List, [], ◌∷◌, ◌++◌, inl, inr, filter, reverse, Option, Some, None, refl, sym, ap, subst, ◌∙◌, arith, if◌then◌else◌}
use Rattle.std.specs.List.{Contains, list_any, find}
use Rattle.std.specs.Prelude.{option_map}
use Rattle.std.proofs.lemmas.Bool.{and_parts, and_from, cond-true, cond-false, not-true}
use Rattle.std.proofs.lemmas.List.Elements.{Contains-append_left}
use Rattle.std.proofs.lemmas.List.Folds.{list_any-append}
use Rattle.std.proofs.lemmas.List.Sorted.{list_any-IsPermutation, IsPermutation-reverse}
use Rattle.usfm_ref.specs.declared.segment.Segment.{Segment}
use Rattle.op_core.specs.Ids.{Id, same_id}
use Rattle.op_core.specs.Ops.{Operation, in_segment, names}
use Rattle.op_core.specs.Equal.{same_id-refl}
use Rattle.op_core.specs.Shown.{shown, is_shown, is_replaced}
use Rattle.op_core.specs.Lists.{ids_of, shown_ids}
use Rattle.op_core.specs.NextIds.{is_among, given_ids, next_number}
use Rattle.conflict_report.specs.Reports.{is_repeated, distinct_texts, repeated_texts}
use Rattle.replica_state.specs.States.{State, IsState}
use Rattle.replica_state.specs.Edits.{edit_fault, edit_by, has_numbers, next_id, own_id, unless, first_not_shown}
use Rattle.replica_state.specs.Changes.{ChangeParts}
use Rattle.replica_state.specs.Steps.{edited, step, with_ops, EditOver}
use Rattle.replica_state.proofs.Changes.{edit_at, edits_after}
use Rattle.replica_state.proofs.ChangeRuns.{among_passing}
use Rattle.replica_state.specs.declared.fault.EditFault.{EditFault}
use Rattle.replica_state.specs.declared.fault.EditFault.TheVariants.{NotShown}
use Rattle.conflict_settling.specs.Asked.{listed_ids}
use Rattle.conflict_settling.specs.Laws.{ListsWhatIsShown, UnlistedStays, SettlesAll}

-- ---- what is listed

mapped : (id : Id) (ops : List Operation) → is_among (ids_of ops) id ≡ list_any (λ o. same_id id o.id) ops
mapped id [] = refl
mapped id (o ∷ ops) = ap (λ b. same_id id o.id || b) (mapped id ops)

turned : (id : Id) (ops : List Operation) → is_among (ids_of (reverse ops)) id ≡ list_any (λ o. same_id id o.id) ops
turned id ops =
    mapped id (reverse ops)
    ∙ sym (list_any-IsPermutation (λ (o : Operation). same_id id o.id) ops (reverse ops) (IsPermutation-reverse ops))

-- what passes a test, and what does not, is all
parted : (q p : Operation → Bool) (ops : List Operation)
    → (list_any q (filter (λ o. not (p o)) ops) || list_any q (filter p ops)) ≡ list_any q ops
parted q p [] = refl
parted q p (o ∷ ops) = by (parted q p ops) (p o)
  where
    swapped : (x y z : Bool) → (x || (y || z)) ≡ (y || (x || z))
    swapped true true z = refl
    swapped true false z = refl
    swapped false y z = refl

    joined : (x y z : Bool) → ((x || y) || z) ≡ (x || (y || z))
    joined true y z = refl
    joined false y z = refl

    by : (list_any q (filter (λ o. not (p o)) ops) || list_any q (filter p ops)) ≡ list_any q ops → (b : Bool)
        → (list_any q (cond (not b) (o ∷ filter (λ o. not (p o)) ops) (filter (λ o. not (p o)) ops))
        || list_any q (cond b (o ∷ filter p ops) (filter p ops))) ≡ (q o || list_any q ops)
    by h true = swapped (list_any q (filter (λ o. not (p o)) ops)) (q o) (list_any q (filter p ops)) ∙ ap (λ b. q o || b) h
    by h false = joined (q o) (list_any q (filter (λ o. not (p o)) ops)) (list_any q (filter p ops)) ∙ ap (λ b. q o || b) h

pub lists_what_is_shown : ListsWhatIsShown
lists_what_is_shown held g id =
    let ops = shown held g in
    let p = is_repeated ops in
    list_any-append (same_id id) (ids_of (distinct_texts held g)) (ids_of (repeated_texts held g))
    ∙ (λ i. turned id (filter (λ o. not (p o)) ops) i || turned id (filter (λ o. p o) ops) i)
    ∙ parted (λ o. same_id id o.id) (λ o. p o) ops ∙ sym (mapped id ops)

-- ---- where nothing came in since

or_true : (b c : Bool) → c ≡ true → (b || c) ≡ true
or_true true c e = refl
or_true false c e = e

none_found : (p : Id → Bool) (ids : List Id) → ((id : Id) → is_among ids id ≡ true → p id ≡ false) → find p ids ≡ None
none_found p [] h = refl
none_found p (id ∷ ids) h =
    cond-false _ _ _ (h id (ap (λ b. b || is_among ids id) (same_id-refl id)))
    ∙ none_found p ids (λ q e. h q (or_true (same_id q id) (is_among ids q) e))

all_kept : (p : Id → Bool) (ids : List Id) → ((id : Id) → is_among ids id ≡ true → p id ≡ true) → filter p ids ≡ ids
all_kept p [] h = refl
all_kept p (id ∷ ids) h =
    cond-true _ _ _ (h id (ap (λ b. b || is_among ids id) (same_id-refl id)))
    ∙ ap (λ (xs : List Id). id ∷ xs) (all_kept p ids (λ q e. h q (or_true (same_id q id) (is_among ids q) e)))

pub settles_all : SettlesAll
settles_all s g text =
    let ids = listed_ids s.held g in
    let same = lists_what_is_shown s.held g in
    let none : first_not_shown s.held g ids ≡ None = none_found _ ids (λ id e. ap not (sym (same id) ∙ e)) in
    let all : given_ids s.held g ids ≡ shown_ids s.held g = all_kept _ (shown_ids s.held g) (λ id e. same id ∙ e) in
    ap (edited s) (λ i. unless (edit_fault s.held g text) (unless (option_map NotShown (none i)) (edit_by (next_id s) g (all i) text)))

-- ---- what is not listed stays

first_or_later : {X : Type 0} (y : X) (ys : List X) (x : X) → Contains (y ∷ ys) x → (y ≡ x) ⊎ Contains ys x
first_or_later y ys x (zero, l, e) = inl e
first_or_later y ys x (suc k, l, e) = inr (k, omega arith, e)

is_later : {X : Type 0} (y : X) (ys : List X) (x : X) → Contains ys x → Contains (y ∷ ys) x
is_later y ys x h = (suc h.0, omega (arith, h.1), h.2)

is_first : {X : Type 0} (y : X) (ys : List X) (x : X) → y ≡ x → Contains (y ∷ ys) x
is_first y ys x e = (0, omega arith, e)

none_there : {X : Type 0} (x : X) → Contains [] x → ⊥
none_there x h = absurd (omega (arith, h.1))

-- what passes is in the list, and passes
passed : {X : Type 0} (p : X → Bool) (xs : List X) (x : X) → Contains (filter p xs) x → Contains xs x × (p x ≡ true)
passed p [] x h = absurd (none_there x h)
passed p (y ∷ ys) x h = by (λ g. passed p ys x g) (p y) refl h
  where
    by : (Contains (filter p ys) x → Contains ys x × (p x ≡ true)) → (b : Bool) → p y ≡ b
        → Contains (cond b (y ∷ filter p ys) (filter p ys)) x
        → Contains (y ∷ ys) x × (p x ≡ true)
    by rest true e h = elim (first_or_later y (filter p ys) x h) [
      | inl here ↦ (is_first y ys x here, ap p (sym here) ∙ e)
      | inr later ↦ (is_later y ys x (rest later).0, (rest later).1)
    ]
    by rest false e h = (is_later y ys x (rest h).0, (rest h).1)

-- what is in the list and passes is kept
passes : {X : Type 0} (p : X → Bool) (xs : List X) (x : X) → Contains xs x → p x ≡ true → Contains (filter p xs) x
passes p [] x h e = absurd (none_there x h)
passes p (y ∷ ys) x h e = elim (first_or_later y ys x h) [
  | inl here ↦ subst (λ (zs : List _). Contains zs x) (sym (cond-true _ _ _ (ap p here ∙ e))) (is_first y (filter p ys) x here)
  | inr later ↦ by (p y) (passes p ys x later e)
]
  where
    by : (b : Bool) → Contains (filter p ys) x → Contains (cond b (y ∷ filter p ys) (filter p ys)) x
    by true h = is_later y (filter p ys) x h
    by false h = h

both_false : (a b : Bool) → b ≡ false → (a && b) ≡ false
both_false true b e = e
both_false false b e = refl

module _ (s : State) (state : IsState s) (g h : Segment) (text : List ℕ) (ids : List Id) (o : Operation)
    (is : Contains (shown s.held h) o) (unlisted : is_among ids o.id ≡ false) where
  abbrev number : ℕ
  number = next_number s.held

  abbrev change : ChangeParts
  change = record { key = g.key; text = text; ids = ids }

  abbrev new : Operation
  new = edit_at s g.book number change

  -- the edit does not name it
  unnamed : is_replaced (new ∷ []) h o.id ≡ false
  unnamed =
      let no : names new o.id ≡ false =
      among_passing (is_among ids) (shown_ids s.held g) o.id ∙ both_false (is_among (shown_ids s.held g) o.id) _ unlisted in
      ap (λ b. b || false) (both_false (in_segment h new) _ no)

  -- it is shown after the edit
  stays_after : Contains (shown (with_ops s (new ∷ [])).held h) o
  stays_after =
      let was = passed (is_shown s.held h) s.held o is in
      let parts = and_parts (in_segment h o) (not (is_replaced s.held h o.id)) was.1 in
      let still : is_replaced (s.held ++ new ∷ []) h o.id ≡ false =
      list_any-append (λ (p : Operation). in_segment h p && names p o.id) s.held (new ∷ [])
      ∙ (λ i. not-true (is_replaced s.held h o.id) parts.1 i || unnamed i) in
      subst (λ (held : List Operation). Contains (shown held h) o)
      (sym (edits_after s g.book s.held number (change ∷ []) state.set.rising (omega arith)))
      (passes (is_shown (s.held ++ new ∷ []) h) (s.held ++ new ∷ []) o (Contains-append_left s.held (new ∷ []) o was.0)
      (and_from _ _ parts.0 (ap not still)))

  -- a refused edit changes nothing
  by_number : (b : Bool) → Contains (shown (edited s (edit_by (option_map (own_id s) (if b then Some number else None)) g
      (given_ids s.held g ids) text)).after.held h) o
  by_number true = stays_after
  by_number false = is

  by_ids : (r : Option Id) → Contains (shown (edited s (unless (option_map NotShown r) (edit_by (next_id s) g
      (given_ids s.held g ids) text))).after.held h) o
  by_ids (Some id) = is
  by_ids None = by_number (has_numbers s.held 1)

  by_fault : (r : Option EditFault) → Contains (shown (edited s (unless r (unless (option_map NotShown (first_not_shown s.held g ids))
      (edit_by (next_id s) g (given_ids s.held g ids) text)))).after.held h) o
  by_fault (Some fault) = is
  by_fault None = by_ids (first_not_shown s.held g ids)

  stays : Contains (shown (step s (EditOver g text ids)).after.held h) o
  stays = by_fault (edit_fault s.held g text)

pub unlisted_stays : UnlistedStays
unlisted_stays s asked_of g h text o state is unlisted = stays s state g h text (listed_ids asked_of g) o is unlisted
