-- What a segment shows once changes of its book are made: of what it showed, that which its change does not name, and then the edit.
use Rattle.std.proofs.Common.{◌≡◌, ℕ, suc, ◌<◌, Bool, true, false, not, ◌&&◌, ◌||◌, List, [], ◌∷◌, ◌++◌, map, filter, arith, refl, sym, ap, ◌∙◌}
use Rattle.std.specs.List.{list_all, list_any}
use Rattle.std.specs.Ordering.{is_eq, is_lt}
use Rattle.std.proofs.Math.Bool.{or-false}
use Rattle.std.proofs.lemmas.Bool.{and_parts, and_from, and_right, cond-true, cond-false}
use Rattle.std.proofs.lemmas.List.Elements.{filter-append}
use Rattle.std.proofs.lemmas.List.Folds.{list_any-append}
use Rattle.usfm_ref.specs.Books.{same_bytes}
use Rattle.usfm_ref.specs.Keys.{KeyParts, key_cmp, same_key}
use Rattle.usfm_ref.specs.Rising.{rises_by}
use Rattle.usfm_ref.specs.Segments.{segment}
use Rattle.usfm_ref.specs.declared.segment.Segment.{Segment}
use Rattle.op_core.specs.Ids.{Id}
use Rattle.op_core.specs.Ops.{Operation, in_segment, names}
use Rattle.op_core.specs.Sets.{IsOpSet}
use Rattle.op_core.specs.Shown.{shown, is_replaced, is_shown}
use Rattle.op_core.specs.NextIds.{greatest_number, next_number, is_among, given_ids}
use Rattle.op_core.proofs.FilteredLists.{filter_both, filter_none, none_of_less}
use Rattle.replica_state.specs.States.{State}
use Rattle.replica_state.specs.Changes.{ChangeParts, edits_from}
use Rattle.replica_state.proofs.Appended as appended
use Rattle.replica_state.proofs.Appended.{is_there, key_is, keys_apart, not_there}
use Rattle.replica_state.proofs.Changes.{edit_at}

-- what stays shown: what is not among the ids that are named
abbrev pub stays : List Id → Operation → Bool
stays named o = not (is_among named o.id)

either_way : (s r n : Bool) → ((s && not r) && not n) ≡ (s && not (r || n))
either_way false r n = refl
either_way true true n = refl
either_way true false n = refl

-- changes of keys of a book, each to its text and over its ids, at one of the keys
module _ (s : State) (set : IsOpSet s.held) (book : List ℕ) (text : KeyParts → List ℕ) (ids : KeyParts → List Id) (q : KeyParts) where
  abbrev pub here : Segment
  here = segment book q

  abbrev pub change : KeyParts → ChangeParts
  change key = record { key = key; text = text key; ids = ids key }

  abbrev pub new : ℕ → List KeyParts → List Operation
  new n keys = edits_from n s book (map change keys)

  abbrev pub edit : ℕ → KeyParts → Operation
  edit n key = edit_at s book n (change key)

  -- the ids that the change of the key names
  abbrev pub named : List Id
  named = given_ids s.held here (ids q)

  abbrev pub now : List KeyParts → List Operation
  now keys = s.held ++ new (next_number s.held) keys

  none_in : (test : Operation → Bool) (n : ℕ) (keys : List KeyParts) → is_there q keys ≡ false
      → list_any (λ o. in_segment here o && test o) (new n keys) ≡ false
  none_in test n keys h =
      none_of_less (λ o. in_segment here o && test o) (in_segment here) (λ o e. (and_parts (in_segment here o) (test o) e).0) (new n keys)
      (appended.none_of s set book text ids q n keys h)

  elsewhere : (k : KeyParts) (n : ℕ) → is_eq (key_cmp q k) ≡ false → in_segment here (edit n k) ≡ false
  elsewhere k n e = and_right (same_bytes book book) (same_key k q) (keys_apart q k e)

  in_here : (k : KeyParts) (n : ℕ) → is_eq (key_cmp q k) ≡ true → in_segment here (edit n k) ≡ true
  in_here k n e = appended.here s set book text ids q k n e

  -- below later keys there is no edit of the key
  none_later : (k : KeyParts) (keys : List KeyParts) → q ≡ k → list_all (λ j. is_lt (key_cmp k j)) keys ≡ true → is_there q keys ≡ false
  none_later k keys is h = not_there q keys (ap (λ (j : KeyParts). list_all (λ i. is_lt (key_cmp j i)) keys) is ∙ h)

  -- the edits name in the segment what the change of its key does
  named_is : (id : Id) (n : ℕ) (keys : List KeyParts) → rises_by key_cmp (λ k. k) keys ≡ true → is_there q keys ≡ true
      → is_replaced (new n keys) here id ≡ is_among named id
  named_is id n [] r h = cc h
  named_is id n (k ∷ keys) r h = by (λ t. named_is id (suc n) keys p.1 t) (is_eq (key_cmp q k)) refl h
    where
      p : (list_all (λ j. is_lt (key_cmp k j)) keys ≡ true) × (rises_by key_cmp (λ j. j) keys ≡ true)
      p = and_parts (list_all (λ j. is_lt (key_cmp k j)) keys) (rises_by key_cmp (λ j. j) keys) r

      by : (is_there q keys ≡ true → is_replaced (new (suc n) keys) here id ≡ is_among named id) → (b : Bool) → is_eq (key_cmp q k) ≡ b
          → (b || is_there q keys) ≡ true
          → ((in_segment here (edit n k) && names (edit n k) id) || is_replaced (new (suc n) keys) here id) ≡ is_among named id
      by rest true e h =
          let is : q ≡ k = key_is q k e in
          (λ i. (in_here k n e i && names (edit n k) id) || none_in (λ o. names o id) (suc n) keys (none_later k keys is p.0) i)
          ∙ or-false (names (edit n k) id)
          ∙ ap (λ (j : KeyParts). is_among (given_ids s.held (segment book j) (ids j)) id) (sym is)
      by rest false e h = (λ i. (elsewhere k n e i && names (edit n k) id) || rest h i)

  -- what is shown of the edits: the one of the key
  pub record NewShown (all : List KeyParts) (ops : List Operation) : Type 0 where
    pub number : ℕ
    pub above : greatest_number s.held < number
    pub is : filter (is_shown (now all) here) ops ≡ edit number q ∷ []

  one_edit : (all : List KeyParts) (n : ℕ) (keys : List KeyParts) → rises_by key_cmp (λ k. k) keys ≡ true → greatest_number s.held < n
      → is_there q keys ≡ true → NewShown all (new n keys)
  one_edit all n [] r l h = cc h
  one_edit all n (k ∷ keys) r l h = by (λ g. one_edit all (suc n) keys p.1 (omega (arith, l)) g) (is_eq (key_cmp q k)) refl h
    where
      p : (list_all (λ j. is_lt (key_cmp k j)) keys ≡ true) × (rises_by key_cmp (λ j. j) keys ≡ true)
      p = and_parts (list_all (λ j. is_lt (key_cmp k j)) keys) (rises_by key_cmp (λ j. j) keys) r

      by : (is_there q keys ≡ true → NewShown all (new (suc n) keys)) → (b : Bool) → is_eq (key_cmp q k) ≡ b
          → (b || is_there q keys) ≡ true
          → NewShown all (new n (k ∷ keys))
      by later true e h =
          let is : q ≡ k = key_is q k e in
          let id : Id = record { number = n; name = s.name } in
          let shows : is_shown (now all) here (edit n k) ≡ true =
          and_from _ _ (in_here k n e) (ap not (appended.unnamed s set book text ids q all id l)) in
          let none = filter_none (is_shown (now all) here) (new (suc n) keys)
          (none_in (λ o. not (is_replaced (now all) here o.id)) (suc n) keys (none_later k keys is p.0)) in
          record { number = n; above = l; is = cond-true _ _ _ shows ∙ (λ i. edit n (sym is i) ∷ none i) }
      by later false e h =
          let rest = later h in
          record {
            number = rest.number;
            above = rest.above;
            is = cond-false _ _ _ (ap (λ b. b && not (is_replaced (now all) here (record { number = n; name = s.name }))) (elsewhere k n e))
                ∙ rest.is;
          }

  -- what stays of what was shown
  held_shown : (all : List KeyParts) → rises_by key_cmp (λ k. k) all ≡ true → is_there q all ≡ true
      → filter (is_shown (now all) here) s.held ≡ filter (stays named) (shown s.held here)
  held_shown all r h = sym (filter_both (stays named) (is_shown s.held here) (is_shown (now all) here) at s.held)
    where
      at : (o : Operation) → (is_shown s.held here o && stays named o) ≡ is_shown (now all) here o
      at o =
          either_way (in_segment here o) (is_replaced s.held here o.id) (is_among named o.id)
          ∙ (λ i. in_segment here o && not (is_replaced s.held here o.id || sym (named_is o.id (next_number s.held) all r h) i))
          ∙ sym (ap (λ b. in_segment here o && not b)
          (list_any-append (λ (p : Operation). in_segment here p && names p o.id) s.held (new (next_number s.held) all)))

  -- a key with a change
  pub record Edited (all : List KeyParts) : Type 0 where
    pub number : ℕ
    pub above : greatest_number s.held < number
    pub is : shown (now all) here ≡ filter (stays named) (shown s.held here) ++ edit number q ∷ []

  pub edited : (all : List KeyParts) → rises_by key_cmp (λ k. k) all ≡ true → is_there q all ≡ true → Edited all
  edited all r h =
      let one = one_edit all (next_number s.held) all r (omega arith) h in
      record {
        number = one.number;
        above = one.above;
        is = filter-append (is_shown (now all) here) s.held (new (next_number s.held) all)
            ∙ (λ i. held_shown all r h i ++ one.is i);
      }

  -- a key without one shows what it did
  pub kept : (all : List KeyParts) → is_there q all ≡ false → shown (now all) here ≡ shown s.held here
  kept all h =
      appended.shown_after s.held (new (next_number s.held) all) here (appended.none_of s set book text ids q (next_number s.held) all h)
