-- The edits of changes: they rise, are new, and stand after all that is held; what they name has smaller numbers.
use Rattle.std.proofs.Common.{◌≡◌, ℕ, suc, ◌+◌, ◌<◌, ◌≤◌, Bool, true, false, cond, List, [], ◌∷◌, ◌++◌, map, take, length, get_or, nat_lt}
use Rattle.std.proofs.Common.{Option, Some, None, arith, refl, sym, ap, ◌∙◌}
use Rattle.std.specs.Cmp.{nat_cmp_is}
use Rattle.std.specs.declared.cmp.Ordering.TheVariants.{Less}
use Rattle.std.specs.List.{AllByRecursion, list_all, list_any}
use Rattle.std.specs.Option.{option_or}
use Rattle.std.specs.Ordering.{ordering_then, is_lt}
use Rattle.std.proofs.lemmas.Bool.{and_parts, and_from, and_right, or_from, leb-true}
use Rattle.std.proofs.lemmas.List.{length-map, map-append}
use Rattle.std.proofs.lemmas.List.Folds.{list_all-append, find-append}
use Rattle.usfm_ref.specs.Segments.{segment}
use Rattle.usfm_ref.specs.declared.segment.Segment.{Segment}
use Rattle.op_core.specs.Names.{name_cmp}
use Rattle.op_core.specs.Ids.{Id, same_id, id_below, ids_rise, names_fall}
use Rattle.op_core.specs.Ops.{Operation, in_segment}
use Rattle.op_core.specs.Sets.{rises, get, join, met}
use Rattle.op_core.specs.Shown.{is_replaced}
use Rattle.op_core.specs.Lists.{shown_ids}
use Rattle.op_core.specs.NextIds.{greatest_number, next_number, is_among, given_ids}
use Rattle.op_core.specs.Thinned.{is_legal, all_full}
use Rattle.op_core.proofs.Indexed.Enrolled.{more_items, apart_at}
use Rattle.op_core.proofs.ThinnedSets.Left.{join_full_legal}
use Rattle.op_core.proofs.IdOrders.NextIds.{beyond, shown_fall, some_fall}
use Rattle.op_core.proofs.Exports.Shows.{not_named}
use Rattle.op_core.proofs.Sets.Union.{rises_parts, rises-join, get-join, same_gets}
use Rattle.replica_state.specs.States.{State, IsState}
use Rattle.replica_state.specs.Edits.{has_numbers, edit_with, own_id, first_number}
use Rattle.replica_state.specs.Changes.{ChangeParts, edits_from}

-- a first number of some operations is the next one, and numbers are left for them
pub record IsFirst (held : List Operation) (count first : ℕ) : Type 0 where
  pub is : first ≡ next_number held
  pub room : greatest_number held + count ≤ 1000000000000000

-- what the body finds is the number from which a list of changes is numbered
pub is_first : (held : List Operation) (count first : ℕ) → Some first ≡ first_number held count → IsFirst held count first
is_first held count first e = by (has_numbers held count) refl e
  where
    by : (b : Bool) → has_numbers held count ≡ b → Some first ≡ cond b (Some (next_number held)) None → IsFirst held count first
    by true h e = record { is = cc e; room = leb-true (greatest_number held + count) 1000000000000000 h }
    by false h e = cc e

-- where one of the two is none, the other is what is met
one_of_both : (x y : Option Operation) → ((o : Operation) → y ≡ Some o → x ≡ None) → met x y ≡ option_or x y
one_of_both None y apart = refl
one_of_both (Some x) None apart = refl
one_of_both (Some x) (Some y) apart = cc (apart y refl)

-- the ids that an edit names fall from one beyond all that are held
pub given_fall : (held : List Operation) (g : Segment) (given : List Id) (id : Id) → rises held ≡ true → greatest_number held < id.number
    → names_fall id (given_ids held g given) ≡ true
given_fall held g given id h l = some_fall id (is_among given) (shown_ids held g) (shown_fall held g id h l)

module _ (s : State) (book : List ℕ) where
  -- the edit of a change, with a number
  abbrev pub edit_at : ℕ → ChangeParts → Operation
  edit_at n c =
      edit_with (own_id s n) (segment book c.key) (given_ids s.held (segment book c.key) c.ids) c.text

  abbrev edits : ℕ → List ChangeParts → List Operation
  edits n changes = edits_from n s book changes

  pub edits_count : (n : ℕ) (changes : List ChangeParts) → length (edits n changes) ≡ length changes
  edits_count n [] = refl
  edits_count n (c ∷ changes) = ap suc (edits_count (suc n) changes)

  -- an id of a smaller number is below each of the edits
  numbers_above : (i : Id) (m : ℕ) (changes : List ChangeParts) → i.number < m
      → list_all (λ o. id_below i o.id) (edits m changes) ≡ true
  numbers_above i m [] l = refl
  numbers_above i m (c ∷ changes) l = and_from _ _
      (ap (λ r. is_lt (ordering_then r (name_cmp i.name s.name))) (sym (nat_cmp_is i.number m Less l)))
      (numbers_above i (suc m) changes (omega arith))

  pub edits_rise : (n : ℕ) (changes : List ChangeParts) → rises (edits n changes) ≡ true
  edits_rise n [] = refl
  edits_rise n (c ∷ changes) =
      and_from _ _ (numbers_above (own_id s n) (suc n) changes (omega arith)) (edits_rise (suc n) changes)

  -- of a set whose numbers are smaller they are not held
  pub edits_beyond : (held : List Operation) (n : ℕ) (changes : List ChangeParts) → greatest_number held < n
      → AllByRecursion (λ o. get held o.id ≡ None) (edits n changes)
  edits_beyond held n [] l = tt
  edits_beyond held n (c ∷ changes) l =
      (beyond held (own_id s n) l, edits_beyond held (suc n) changes (omega arith))

  rises_after : (ops : List Operation) (n : ℕ) (changes : List ChangeParts) → rises ops ≡ true → greatest_number ops < n
      → rises (ops ++ edits n changes) ≡ true
  rises_after [] n changes h l = edits_rise n changes
  rises_after (o ∷ ops) n changes h l =
      let p = rises_parts o ops h in
      and_from _ _ (list_all-append (λ (q : Operation). id_below o.id q.id) ops (edits n changes)
      ∙ and_from _ _ p.0 (numbers_above o.id n changes (omega arith)))
      (rises_after ops n changes p.1 (omega arith))

  -- and they stand after it
  pub edits_after : (held : List Operation) (n : ℕ) (changes : List ChangeParts) → rises held ≡ true → greatest_number held < n
      → join held (edits n changes) ≡ held ++ edits n changes
  edits_after held n changes h l =
      let new = edits n changes in
      same_gets _ _ (rises-join held new h) (rises_after held n changes h l)
      (λ q. get-join held new q h (edits_rise n changes)
      ∙ one_of_both (get held q) (get new q) (λ o g. apart_at held new q o (edits_beyond held n changes l) g)
      ∙ sym (find-append (λ (o : Operation). same_id q o.id) held new))

  edits_full : (n : ℕ) (changes : List ChangeParts) → all_full (edits n changes) ≡ true
  edits_full n [] = refl
  edits_full n (c ∷ changes) = edits_full (suc n) changes

  -- a replica with the edits is legal
  pub edits_legal : (n : ℕ) (changes : List ChangeParts) → IsState s → greatest_number s.held < n
      → is_legal (join s.held (edits n changes)) ≡ true
  edits_legal n changes state l =
      join_full_legal s.held (edits n changes) state.set.rising (edits_rise n changes) state.legal (edits_full n changes)
      (edits_beyond s.held n changes l)

  edits_push : (n : ℕ) (changes : List ChangeParts) (c : ChangeParts)
      → edits n (changes ++ c ∷ []) ≡ edits n changes ++ edit_at (n + length changes) c ∷ []
  edits_push n [] c = let e : n ≡ n + 0 = omega arith in ap (λ (m : ℕ). edit_at m c ∷ []) e
  edits_push n (d ∷ changes) c =
      let e : suc n + length changes ≡ n + suc (length changes) = omega arith in
      ap (λ (ops : List Operation). edit_at n d ∷ ops)
      (edits_push (suc n) changes c ∙ ap (λ (m : ℕ). edits (suc n) changes ++ edit_at m c ∷ []) e)

  -- one more of them
  pub edits_more : {X : Type 0} (f : X → ChangeParts) (n m : ℕ) (xs : List X) (i : ℕ) (x : X) → i < length xs → x ≡ get_or xs i x
      → length (take i xs) ≡ i → m ≡ n + i
      → edits n (map f (take i xs)) ++ edit_at m (f x) ∷ [] ≡ edits n (map f (take (i + 1) xs))
  edits_more {X} f n m xs i x l is len e =
      let long : length (map f (take i xs)) ≡ i = length-map (take i xs) f ∙ len in
      sym (ap (λ (ys : List X). edits n (map f ys)) (more_items xs i x l is)
      ∙ ap (edits n) (map-append f (take i xs) (x ∷ []))
      ∙ edits_push n (map f (take i xs)) (f x)
      ∙ ap (λ (j : ℕ). edits n (map f (take i xs)) ++ edit_at j (f x) ∷ []) (ap (λ (j : ℕ). n + j) long ∙ sym e))

  -- they name no id beyond what the replica holds
  pub edits_name_none : (g : Segment) (id : Id) (n : ℕ) (changes : List ChangeParts) → rises s.held ≡ true
      → greatest_number s.held < id.number
      → is_replaced (edits n changes) g id ≡ false
  edits_name_none g id n [] h l = refl
  edits_name_none g id n (c ∷ changes) h l =
      let named = given_ids s.held (segment book c.key) c.ids in
      let below : list_all (λ (i : Id). nat_lt i.number id.number) named ≡ true =
      (and_parts (ids_rise named) (list_all (λ (i : Id). nat_lt i.number id.number) named)
      (given_fall s.held (segment book c.key) c.ids id h l)).1 in
      or_from _ _ (and_right (in_segment g (edit_at n c)) (list_any (same_id id) named) (not_named id.number id named below (omega arith)))
      (edits_name_none g id (suc n) changes h l)
