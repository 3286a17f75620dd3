-- A replica after an import: the edits come after all that it held, and each is what its segment shows last.
use Rattle.std.proofs.Common.{◌≡◌, ℕ, suc, ◌<◌, Bool, true, false, not, ◌&&◌, ◌||◌, List, [], ◌∷◌, ◌++◌, map}
use Rattle.std.proofs.Common.{filter, arith, refl, sym, ap, ◌∙◌, append-nil}
use Rattle.std.specs.Cmp.{Equal-is, tied_itself}
use Rattle.std.specs.List.{list_all, list_any}
use Rattle.std.specs.Ordering.{is_eq, is_lt}
use Rattle.std.proofs.Math.Bool.{or-false}
use Rattle.std.proofs.lemmas.Bool.{and_parts, and_from, and_right, or_from, or_parts, cond-true, cond-false}
use Rattle.std.proofs.lemmas.List.Elements.{filter-append}
use Rattle.std.proofs.lemmas.List.Folds.{list_any-append}
use Rattle.usfm_ref.specs.Books.{same_bytes}
use Rattle.usfm_ref.specs.Keys.{KeyParts, key_cmp, same_key}
use Rattle.usfm_ref.specs.Rising.{rises_by}
use Rattle.usfm_ref.specs.Segments.{segment}
use Rattle.usfm_ref.specs.declared.segment.Segment.{Segment}
use Rattle.usfm_ref.proofs.Orders.{key_total, key_exact, same_bytes-refl, same_key-is, same_key-refl}
use Rattle.usfm_ref.proofs.Sorted.{is_less}
use Rattle.op_core.specs.Ids.{Id}
use Rattle.op_core.specs.Ops.{Operation, in_segment, names}
use Rattle.op_core.specs.Sets.{IsOpSet}
use Rattle.op_core.specs.Shown.{shown, is_replaced, is_shown, last, text_if_any, text_of}
use Rattle.op_core.specs.NextIds.{greatest_number, next_number}
use Rattle.op_core.proofs.Exports.Shows.{named_by_none}
use Rattle.op_core.proofs.FilteredLists.{filter_none, none_of_less}
use Rattle.op_core.proofs.Walk.{last_push}
use Rattle.replica_state.specs.States.{State}
use Rattle.replica_state.specs.Changes.{ChangeParts, edits_from}
use Rattle.replica_state.proofs.Changes.{edit_at, edits_name_none}

-- whether a key is among keys
abbrev pub is_there : KeyParts → List KeyParts → Bool
is_there q ks = list_any (λ k. is_eq (key_cmp q k)) ks

-- keys that the order keeps apart are not the same
pub keys_apart : (q k : KeyParts) → is_eq (key_cmp q k) ≡ false → same_key k q ≡ false
keys_apart q k h = by (same_key k q) refl
  where
    by : (b : Bool) → same_key k q ≡ b → same_key k q ≡ false
    by true e = cc (sym h ∙ ap (λ (j : KeyParts). is_eq (key_cmp q j)) (same_key-is k q e) ∙ ap is_eq (tied_itself key_total q))
    by false e = e

-- keys that tie are the same
pub key_is : (q k : KeyParts) → is_eq (key_cmp q k) ≡ true → q ≡ k
key_is q k h = key_exact q k ((Equal-is _).0 h)

-- a key below all others is not among them
pub not_there : (key : KeyParts) (keys : List KeyParts) → list_all (λ k. is_lt (key_cmp key k)) keys ≡ true → is_there key keys ≡ false
not_there key [] h = refl
not_there key (k ∷ keys) h =
    let p = and_parts (is_lt (key_cmp key k)) (list_all (λ k. is_lt (key_cmp key k)) keys) h in
    (λ i. is_eq (is_less (key_cmp key k) p.0 i) || not_there key keys p.1 i)

-- ---- operations of other segments, after those of a set

none_among : (g : Segment) (test : Operation → Bool) (ops : List Operation) → list_any (in_segment g) ops ≡ false
    → list_any (λ o. in_segment g o && test o) ops ≡ false
none_among g test ops h =
    none_of_less (λ o. in_segment g o && test o) (in_segment g) (λ o e. (and_parts (in_segment g o) (test o) e).0) ops h

-- a segment shows what it did
pub shown_after : (held new : List Operation) (g : Segment) → list_any (in_segment g) new ≡ false → shown (held ++ new) g ≡ shown held g
shown_after held new g h =
    filter-append (is_shown (held ++ new) g) held new
    ∙ (λ i. filter (λ o. in_segment g o && not (same o.id i)) held
    ++ filter_none (is_shown (held ++ new) g) new (none_among g (λ o. not (is_replaced (held ++ new) g o.id)) new h) i)
    ∙ append-nil (shown held g)
  where
    same : (id : Id) → is_replaced (held ++ new) g id ≡ is_replaced held g id
    same id =
        list_any-append (λ (p : Operation). in_segment g p && names p id) held new
        ∙ ap (λ b. is_replaced held g id || b) (none_among g (λ o. names o id) new h) ∙ or-false (is_replaced held g id)

-- changes of some keys of a book, each to its text and over its ids
module _ (s : State) (set : IsOpSet s.held) (book : List ℕ) (text : KeyParts → List ℕ) (ids : KeyParts → List Id) where
  abbrev pub change_of : KeyParts → ChangeParts
  change_of key = record { key = key; text = text key; ids = ids key }

  abbrev pub edits : ℕ → List KeyParts → List Operation
  edits n keys = edits_from n s book (map change_of keys)

  abbrev pub edit_of : ℕ → KeyParts → Operation
  edit_of n key = edit_at s book n (change_of key)

  -- a key without an edit has none
  pub none_of : (q : KeyParts) (n : ℕ) (keys : List KeyParts) → is_there q keys ≡ false
      → list_any (in_segment (segment book q)) (edits n keys) ≡ false
  none_of q n [] h = refl
  none_of q n (k ∷ keys) h =
      let p = or_parts (is_eq (key_cmp q k)) (is_there q keys) h in
      or_from _ _ (and_right (same_bytes book book) (same_key k q) (keys_apart q k p.0)) (none_of q (suc n) keys p.1)

  -- and one with an edit has it
  pub here : (q k : KeyParts) (n : ℕ) → is_eq (key_cmp q k) ≡ true → in_segment (segment book q) (edit_of n k) ≡ true
  here q k n e = and_from _ _ (same_bytes-refl book) (ap (λ (j : KeyParts). same_key k j) (key_is q k e) ∙ same_key-refl k)

  -- ---- what of the edits a segment shows

  module _ (key : KeyParts) (all : List KeyParts) where
    abbrev pub g : Segment
    g = segment book key

    abbrev pub now : List Operation
    now = s.held ++ edits (next_number s.held) all

    pub unnamed : (id : Id) → greatest_number s.held < id.number → is_replaced now g id ≡ false
    unnamed id l =
        list_any-append (λ (p : Operation). in_segment g p && names p id) s.held (edits (next_number s.held) all)
        ∙ or_from _ _ (named_by_none g id s.held set.each (omega (arith, l)))
        (edits_name_none s book g id (next_number s.held) (map change_of all) set.rising l)

    one_edit : (n : ℕ) (keys : List KeyParts) → rises_by key_cmp (λ k. k) keys ≡ true → greatest_number s.held < n
        → is_there key keys ≡ true → (m : ℕ) × (filter (is_shown now g) (edits n keys) ≡ edit_of m key ∷ [])
    one_edit n [] r l h = cc h
    one_edit n (k ∷ keys) r l h = by (λ g. one_edit (suc n) keys p.1 (omega arith) g) (is_eq (key_cmp key k)) refl h
      where
        p : (list_all (λ j. is_lt (key_cmp k j)) keys ≡ true) × (rises_by key_cmp (λ k. k) keys ≡ true)
        p = and_parts (list_all (λ j. is_lt (key_cmp k j)) keys) (rises_by key_cmp (λ k. k) keys) r

        by : (is_there key keys ≡ true → (m : ℕ) × (filter (is_shown now g) (edits (suc n) keys) ≡ edit_of m key ∷ []))
            → (b : Bool) → is_eq (key_cmp key k) ≡ b → (b || is_there key keys) ≡ true
            → (m : ℕ) × (filter (is_shown now g) (edits n (k ∷ keys)) ≡ edit_of m key ∷ [])
        by later true e h =
            let is : key ≡ k = key_is key k e in
            let id : Id = record { number = n; name = s.name } in
            let shows : is_shown now g (edit_of n k) ≡ true = and_from _ _ (here key k n e) (ap not (unnamed id l)) in
            let none = filter_none (is_shown now g) (edits (suc n) keys)
            (none_among g (λ o. not (is_replaced now g o.id)) (edits (suc n) keys)
            (none_of key (suc n) keys (not_there key keys (ap (λ (q : KeyParts). list_all (λ j. is_lt (key_cmp q j)) keys) is ∙ p.0)))) in
            (n, cond-true _ _ _ shows ∙ (λ i. edit_of n (sym is i) ∷ none i))
        by later false e h =
            let rest = later h in (
              rest.0,
              cond-false _ _ _ (ap (λ b. b && not (is_replaced now g (record { number = n; name = s.name })))
                  (and_right (same_bytes book book) (same_key k key) (keys_apart key k e))) ∙ rest.1,
            )

    -- a key with an edit: its text is that of the change
    pub text_edited : rises_by key_cmp (λ k. k) all ≡ true → is_there key all ≡ true → text_of now g ≡ text key
    text_edited r h =
        let one = one_edit (next_number s.held) all r (omega arith) h in
        ap (λ (ops : List Operation). text_if_any (last ops))
        (filter-append (is_shown now g) s.held (edits (next_number s.held) all)
        ∙ ap (λ (ops : List Operation). filter (is_shown now g) s.held ++ ops) one.1)
        ∙ ap text_if_any (last_push (filter (is_shown now g) s.held) (edit_of one.0 key))

    -- a key without one: its text is as it was
    pub text_kept : is_there key all ≡ false → text_of now g ≡ text_of s.held g
    text_kept h =
        ap (λ (ops : List Operation). text_if_any (last ops))
        (shown_after s.held (edits (next_number s.held) all) g (none_of key (next_number s.held) all h))
