-- The base of what is shown in the books that get a file: it is a legal part of what is held, and in these books it shows, picks
-- and exports the same.
use Rattle.std.proofs.Common.{◌≡◌, ℕ, Bool, true, false, cond, not, ◌&&◌, ◌||◌, List, [], ◌∷◌, filter, Option, Some, None, refl, sym, ap, ◌∙◌}
use Rattle.std.specs.Cmp.{both_ways}
use Rattle.std.specs.List.{AllByRecursion, flat_map, list_any}
use Rattle.std.specs.Ordering.{is_eq}
use Rattle.std.proofs.lemmas.Bool.{and_parts, and_from, and_right, false≢true, false_from_ne_true}
use Rattle.usfm_ref.specs.Books.{same_bytes}
use Rattle.usfm_ref.specs.Keys.{KeyParts, key_cmp, head_of}
use Rattle.usfm_ref.specs.Segments.{segment}
use Rattle.usfm_ref.specs.declared.segment.Segment.{Segment}
use Rattle.usfm_ref.proofs.Members.{same_tested}
use Rattle.usfm_ref.proofs.Orders.{key_exact, key_total, same_bytes-is, same_segment-is, same_segment-refl}
use Rattle.usfm_ref.proofs.Sorted.{rises-rising}
use Rattle.op_core.specs.Export.{export, exported_keys, has_book, keys_in, of_book}
use Rattle.op_core.specs.Ids.{Id}
use Rattle.op_core.specs.Lists.{shown_ids}
use Rattle.op_core.specs.NextIds.{is_among}
use Rattle.op_core.specs.Ops.{Operation, in_segment, is_full, names}
use Rattle.op_core.specs.Sets.{IsOpSet, get}
use Rattle.op_core.specs.Shown.{is_replaced, is_shown, last, shown}
use Rattle.op_core.specs.Thinned.{all_full, is_legal}
use Rattle.op_core.proofs.Exports.ByShown.{ShowSame, picked_same}
use Rattle.op_core.proofs.Sets.Clashes.{get_id}
use Rattle.op_core.proofs.Exports.Exported.{any-rising, last_held}
use Rattle.op_core.proofs.FilteredLists.{any_filter, any_flat, any_map, any_weaker}
use Rattle.op_core.proofs.Sets.Filters.{filter_kept, filter_passes}
use Rattle.op_core.proofs.Sets.Gets.{any_from, any_held}
use Rattle.op_core.proofs.Sets.Legal.{full_legal, legal_at}
use Rattle.op_core.proofs.Exports.Shows.{shows_one}
use Rattle.op_core.proofs.Sets.Union.{held_itself}
use Rattle.replica_state.proofs.World.Held.{among_is_held, at_held, held_at}
use Rattle.book_folder.specs.Bases.{shown_in_files, shows}
use Rattle.book_folder.specs.Begun.{is_one_of}

-- to filter twice, where both tests pass together where a third one does
filter_as : (p q r : Operation → Bool) (xs : List Operation) → AllByRecursion (λ x. (q x && p x) ≡ r x) xs
    → filter p (filter q xs) ≡ filter r xs
filter_as p q r [] h = refl
filter_as p q r (x ∷ xs) h = by (filter_as p q r xs h.1) (q x) (r x) h.0
  where
    by : filter p (filter q xs) ≡ filter r xs → (b c : Bool) → (b && p x) ≡ c
        → filter p (cond b (x ∷ filter q xs) (filter q xs)) ≡ cond c (x ∷ filter r xs) (filter r xs)
    by rest true c f = (λ i. cond (f i) (x ∷ rest i) (rest i))
    by rest false c f = rest ∙ ap (λ (d : Bool). cond d (x ∷ filter r xs) (filter r xs)) f

module _ (held : List Operation) (set : IsOpSet held) (headless : List (List ℕ)) where
  -- what is of a book that gets a file, and shown
  abbrev pub stays : Operation → Bool
  stays o = not (is_one_of headless o.segment.book) && shows held o

  abbrev part : List Operation
  part = filter stays held

  -- an operation of the set is among what its segment shows where none names it
  pub shows_is : (o : Operation) → get held o.id ≡ Some o → shows held o ≡ not (is_replaced held o.segment o.id)
  shows_is o g = by (is_replaced held o.segment o.id) refl
    where
      by : (b : Bool) → is_replaced held o.segment o.id ≡ b → is_among (shown_ids held o.segment) o.id ≡ not b
      by false e =
          among_is_held (shown held o.segment) o.id
          ∙ at_held (shown held o.segment) o.id o
          (filter_kept (is_shown held o.segment) held o.id o g (and_from _ _ (same_segment-refl o.segment) (ap not e)))
      by true e = false_from_ne_true _ (λ t.
          let one = held_at (shown held o.segment) o.id (sym (among_is_held (shown held o.segment) o.id) ∙ t) in
          let passes = filter_passes (is_shown held o.segment) held o.id one.0 one.1 in
          let free = (and_parts (in_segment o.segment one.0) (not (is_replaced held o.segment one.0.id)) passes).1 in
          let own : one.0.id ≡ o.id = get_id (shown held o.segment) o.id one.0 one.1 in
          false≢true (ap not (sym e ∙ ap (is_replaced held o.segment) (sym own)) ∙ free))

  -- what a part names, the set names
  fewer : (g : Segment) (id : Id) → is_replaced part g id ≡ true → is_replaced held g id ≡ true
  fewer g id h =
      any_weaker (λ (o : Operation). stays o && (in_segment g o && names o id)) (λ o. in_segment g o && names o id)
      (λ o e. (and_parts (stays o) (in_segment g o && names o id) e).1) held
      (sym (any_filter (λ (o : Operation). in_segment g o && names o id) stays held) ∙ h)

  -- a segment of a book that gets a file shows the same
  pub shown_same : (g : Segment) → is_one_of headless g.book ≡ false → shown part g ≡ shown held g
  shown_same g gets = filter_as (is_shown part g) stays (is_shown held g) held (each held (held_itself held set.rising))
    where
      cases : (a r s : Bool) → a ≡ not r → (s ≡ true → r ≡ true) → (a && not s) ≡ not r
      cases a true s e f = ap (λ b. b && not s) e
      cases a false true e f = absurd (false≢true (f refl))
      cases a false false e f = ap (λ b. b && true) e

      one : (o : Operation) → get held o.id ≡ Some o → (stays o && is_shown part g o) ≡ is_shown held g o
      one o found = by (in_segment g o) refl
        where
          by : (b : Bool) → in_segment g o ≡ b
              → (stays o && (b && not (is_replaced part g o.id))) ≡ (b && not (is_replaced held g o.id))
          by false e = and_right (stays o) false refl
          by true e =
              let same : o.segment ≡ g = same_segment-is o.segment g e in
              let here : stays o ≡ shows held o =
              ap (λ b. not b && shows held o) (ap (λ (s : Segment). is_one_of headless s.book) same ∙ gets) in
              let free : shows held o ≡ not (is_replaced held g o.id) =
              shows_is o found ∙ ap (λ (s : Segment). not (is_replaced held s o.id)) same in
              cases (stays o) (is_replaced held g o.id) (is_replaced part g o.id) (here ∙ free) (fewer g o.id)

      each : (xs : List Operation) → AllByRecursion (λ o. get held o.id ≡ Some o) xs
          → AllByRecursion (λ o. (stays o && is_shown part g o) ≡ is_shown held g o) xs
      each [] h = tt
      each (o ∷ xs) h = (one o h.0, each xs h.1)

  -- a segment of such a book has an operation in the part, if it has one
  pub segment_there : (g : Segment) → is_one_of headless g.book ≡ false → list_any (in_segment g) held ≡ true
      → list_any (in_segment g) part ≡ true
  segment_there g gets h = by (last (shown held g)) refl
    where
      none_last : (ops : List Operation) → last ops ≡ None → ops ≡ []
      none_last [] e = refl
      none_last (o ∷ []) e = cc e
      none_last (o ∷ p ∷ ops) e = absurd (let none = none_last (p ∷ ops) e in cc none)

      by : (l : Option Operation) → last (shown held g) ≡ l → list_any (in_segment g) part ≡ true
      by None e = absurd (shows_one g held set h (none_last (shown held g) e))
      by (Some o) e = last_held part g o (ap last (shown_same g gets) ∙ e)

  module _ (book : List ℕ) (gets : is_one_of headless book ≡ false) where
    -- what an operation of the book has of its key, one of the part has
    any_there : (test : KeyParts → Bool) → list_any (λ o. same_bytes o.segment.book book && test o.segment.key) held
        ≡ list_any (λ o. same_bytes o.segment.book book && test o.segment.key) part
    any_there test = both_ways _ _ there back
      where
        passes : Operation → Bool
        passes o = same_bytes o.segment.book book && test o.segment.key

        there : list_any passes held ≡ true → list_any passes part ≡ true
        there h =
            let a = any_held passes held set.rising h in
            let g : Segment = a.one.segment in
            let both = and_parts (same_bytes g.book book) (test g.key) a.passes in
            let in_book : is_one_of headless g.book ≡ false = ap (is_one_of headless) (same_bytes-is g.book book both.0) ∙ gets in
            any_weaker (in_segment g) passes
            (λ o e. ap (λ (s : Segment). same_bytes s.book book && test s.key) (same_segment-is o.segment g e) ∙ a.passes) part
            (segment_there g in_book (any_from (in_segment g) held a.one.id a.one a.held (same_segment-refl g)))

        back : list_any passes part ≡ true → list_any passes held ≡ true
        back h =
            any_weaker (λ (o : Operation). stays o && passes o) passes (λ o e. (and_parts (stays o) (passes o) e).1) held
            (sym (any_filter passes stays held) ∙ h)

    pub show_same : ShowSame part held book
    show_same key = shown_same (segment book key) gets

    -- the book is there, if it is held
    pub book_there : has_book held book ≡ true → has_book part book ≡ true
    book_there h =
        any_weaker (λ (o : Operation). same_bytes o.segment.book book && true) (of_book book)
        (λ o e. (and_parts (same_bytes o.segment.book book) true e).0) part
        (sym (any_there (λ key. true))
        ∙ any_weaker (of_book book) (λ o. same_bytes o.segment.book book && true) (λ o e. and_from _ _ e refl) held h)

    keys_there : (ops : List Operation) (q : KeyParts)
        → list_any (λ k. is_eq (key_cmp q k)) (exported_keys ops book)
        ≡ list_any (λ o. same_bytes o.segment.book book
        && (is_eq (key_cmp q (head_of o.segment.key)) || (is_eq (key_cmp q o.segment.key) || false))) ops
    keys_there ops q =
        any-rising (λ k. is_eq (key_cmp q k)) (flat_map (λ key. head_of key ∷ key ∷ []) (keys_in ops book))
        ∙ any_flat (λ k. is_eq (key_cmp q k)) (λ key. head_of key ∷ key ∷ []) (keys_in ops book)
        ∙ any_map (λ key. is_eq (key_cmp q (head_of key)) || (is_eq (key_cmp q key) || false)) (λ (o : Operation). o.segment.key)
        (filter (of_book book) ops)
        ∙ any_filter (λ o. is_eq (key_cmp q (head_of o.segment.key)) || (is_eq (key_cmp q o.segment.key) || false)) (of_book book) ops

    exported_same : exported_keys part book ≡ exported_keys held book
    exported_same =
        same_tested key_cmp key_total key_exact (exported_keys part book) (exported_keys held book)
        (rises-rising key_cmp key_total (flat_map (λ key. head_of key ∷ key ∷ []) (keys_in part book)))
        (rises-rising key_cmp key_total (flat_map (λ key. head_of key ∷ key ∷ []) (keys_in held book)))
        (λ q. keys_there part q
        ∙ sym (any_there (λ key. is_eq (key_cmp q (head_of key)) || (is_eq (key_cmp q key) || false)))
        ∙ sym (keys_there held q))

    -- the book's export is the same
    pub export_same : export part book ≡ export held book
    export_same =
        (λ i. flat_map (λ key. picked_same part held book show_same key i) (exported_same i))

-- what a legal set shows has its text, so that some of it is legal
pub some_shown_legal : (held : List Operation) (q : Operation → Bool) → IsOpSet held → is_legal held ≡ true
    → ((o : Operation) → q o ≡ true → shows held o ≡ true) → is_legal (filter q held) ≡ true
some_shown_legal held q set legal shown =
    full_legal (filter q held) (filter q held) (all_kept held (held_itself held set.rising))
  where
    full_of : (o : Operation) → get held o.id ≡ Some o → shows held o ≡ true → (b : Bool) → is_full o ≡ b → is_full o ≡ true
    full_of o g s true e = e
    full_of o g s false e =
        let past : is_replaced held o.segment o.id ≡ true = legal_at held o.id o legal g e in
        absurd (false≢true (ap not (sym past) ∙ sym (shows_is held set [] o g) ∙ s))

    all_kept : (xs : List Operation) → AllByRecursion (λ o. get held o.id ≡ Some o) xs → all_full (filter q xs) ≡ true
    all_kept [] h = refl
    all_kept (o ∷ xs) h = by (all_kept xs h.1) (q o) refl
      where
        by : all_full (filter q xs) ≡ true → (b : Bool) → q o ≡ b → all_full (cond b (o ∷ filter q xs) (filter q xs)) ≡ true
        by rest true e = and_from _ _ (full_of o h.0 (shown o e) (is_full o) refl) rest
        by rest false e = rest

-- so is what it shows in the books that get a file
pub shown_legal : (held : List Operation) (headless : List (List ℕ)) → IsOpSet held → is_legal held ≡ true
    → is_legal (shown_in_files headless held) ≡ true
shown_legal held headless set legal =
    some_shown_legal held (λ o. not (is_one_of headless o.segment.book) && shows held o) set legal
    (λ o h. (and_parts (not (is_one_of headless o.segment.book)) (shows held o) h).1)
