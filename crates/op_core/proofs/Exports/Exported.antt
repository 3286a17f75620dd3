-- The keys of an export, and what is picked at them.
use Rattle.std.proofs.Common.{◌≡◌, ℕ, ◌≤◌, Bool, true, false, not, cond, ◌&&◌, ◌||◌, ◌==◌, nat_le, List, [], ◌∷◌, ◌++◌, Option, None, Some, map, filter, codes, IsUtf8, arith, refl, sym, ap, subst, ◌∙◌, inl, inr}
use Rattle.std.proofs.lemmas.Bool.{and_parts, and_from, and_left, eqb-true, eq-eqb, leb-true, le-leb, not-true, cond-true, cond-false, or_left, or_right}
use Rattle.std.proofs.lemmas.Fmt.{IsAscii-decimal}
use Rattle.std.proofs.lemmas.List.Folds.{Any-from_list_any}
use Rattle.std.proofs.lemmas.Str.{IsAscii-append, IsUtf8-from_ascii, IsUtf8-nil}
use Rattle.std.proofs.lemmas.Str.Ascii.{IsAscii-nil, IsAscii-cons}
use Rattle.std.specs.Fmt.{decimal}
use Rattle.std.specs.Str.{IsAscii}
use Rattle.std.specs.declared.cmp.Ordering.{Ordering}
use Rattle.std.specs.declared.cmp.Ordering.TheVariants.{Less, Equal, Greater}
use Rattle.std.specs.FinMap.Entries.{by_order}
use Rattle.std.specs.List.{list_any, flat_map, AllByRecursion}
use Rattle.std.specs.Prelude.{◌⊎◌}
use Rattle.usfm_ref.specs.Books.{same_bytes, is_book_code}
use Rattle.usfm_ref.specs.Keys.{KeyParts, key_cmp, chapter_head, head_of, is_head, is_key, is_place, is_verse_of, same_key}
use Rattle.usfm_ref.specs.Rising.{with_item, rising}
use Rattle.usfm_ref.specs.Segments.{segment}
use Rattle.usfm_ref.specs.declared.segment.Segment.{Segment}
use Rattle.usfm_ref.specs.declared.key.Place.{Place}
use Rattle.usfm_ref.specs.declared.key.Place.TheVariants.{Head, Verse}
use Rattle.usfm_ref.proofs.Orders.{key_exact, same_bytes-is, same_bytes-refl, same_key-refl, same_segment-is}
use Rattle.verse_cut.specs.Fits.{Fits}
use Rattle.verse_cut.specs.Reading.{is_empty}
use Rattle.verse_cut.specs.Joins.{chapter_line}
use Rattle.verse_cut.proofs.ChapterLines.{chapter_lines_fit}
use Rattle.op_core.specs.Ops.{Operation, IsOperation, in_segment, is_verse_in, MayBeText, or_empty}
use Rattle.op_core.specs.Sets.{IsOpSet}
use Rattle.op_core.specs.Shown.{is_replaced, is_shown, shown, last, text_if_any, text_of, is_verse_with_text, has_verse_text, wants_chapter_line, greatest, pick, picked_text}
use Rattle.op_core.specs.Export.{of_book, keys_in, exported_keys}
use Rattle.op_core.specs.CutsBack.{picked_at, PicksAreExported}
use Rattle.op_core.proofs.FilteredLists.{any_weaker}

-- ---- tests of lists

or_swap : (a b c : Bool) → (a || (b || c)) ≡ (b || (a || c))
or_swap true true c = refl
or_swap true false c = refl
or_swap false true c = refl
or_swap false false c = refl

or_twice : (a c : Bool) → (a || (a || c)) ≡ (a || c)
or_twice true c = refl
or_twice false c = refl

-- an item that passes is one of which what holds of all does
pub found_of : {X : Type 0} (P : X → Type 0) (p : X → Bool) (xs : List X) → AllByRecursion P xs → list_any p xs ≡ true
    → (x : X) × P x × (p x ≡ true)
found_of P p [] all h = absurd (cc)
found_of {X} P p (x ∷ xs) all h = by (found_of P p xs all.1) (p x) refl h
  where
    by : (list_any p xs ≡ true → (y : X) × P y × (p y ≡ true)) → (b : Bool) → p x ≡ b → (b || list_any p xs) ≡ true
        → (y : X) × P y × (p y ≡ true)
    by later true e h = (x, all.0, e)
    by later false e h = later h

any_none : {X : Type 0} (p q : X → Bool) (xs : List X) → ((x : X) → p x ≡ false → q x ≡ false) → list_any p xs ≡ false → filter q xs ≡ []
any_none p q [] f h = refl
any_none p q (x ∷ xs) f h = by (any_none p q xs f) (p x) refl h
  where
    by : (list_any p xs ≡ false → filter q xs ≡ []) → (b : Bool) → p x ≡ b → (b || list_any p xs) ≡ false → filter q (x ∷ xs) ≡ []
    by later true e h = absurd (cc)
    by later false e h = cond-false _ _ _ (f x e) ∙ later h

-- ---- the last shown operation

kept_of : {X : Type 0} (P : X → Type 0) (p : X → Bool) (xs : List X) → AllByRecursion P xs
    → AllByRecursion (λ x. P x × (p x ≡ true)) (filter p xs)
kept_of P p [] all = tt
kept_of P p (x ∷ xs) all = by (kept_of P p xs all.1) (p x) refl
  where
    by : AllByRecursion (λ y. P y × (p y ≡ true)) (filter p xs) → (b : Bool) → p x ≡ b
        → AllByRecursion (λ y. P y × (p y ≡ true)) (cond b (x ∷ filter p xs) (filter p xs))
    by later true e = ((all.0, e), later)
    by later false e = later

last_of : (P : Operation → Type 0) (ops : List Operation) (o : Operation) → AllByRecursion P ops → last ops ≡ Some o → P o
last_of P [] o all h = absurd (cc)
last_of P (p ∷ []) o all h = let is : p ≡ o = cc in subst P is all.0
last_of P (p ∷ q ∷ rest) o all h = last_of P (q ∷ rest) o all.1 h

-- the last shown operation is one of the segment
pub record IsOf (g : Segment) (o : Operation) : Type 0 where
  pub is_operation : IsOperation o
  pub segment : o.segment ≡ g

-- the last operation that a segment shows is of that segment
pub shown_last : (held : List Operation) (g : Segment) (o : Operation) → IsOpSet held → last (shown held g) ≡ Some o → IsOf g o
shown_last held g o set h =
    let p = last_of (λ p. IsOperation p × (is_shown held g p ≡ true)) (shown held g) o
    (kept_of IsOperation (is_shown held g) held set.each) h in
    record { is_operation = p.0; segment = same_segment-is o.segment g (and_parts (in_segment g o) (not (is_replaced held g o.id)) p.1).0 }

-- a segment with a shown operation has one
pub last_held : (held : List Operation) (g : Segment) (o : Operation) → last (shown held g) ≡ Some o → list_any (in_segment g) held ≡ true
last_held held g o h = by (list_any (in_segment g) held) refl
  where
    by : (b : Bool) → list_any (in_segment g) held ≡ b → list_any (in_segment g) held ≡ true
    by true e = e
    by false e = absurd (let none : last (shown held g)
        ≡ None = ap last (any_none (in_segment g) (is_shown held g) held
        (λ x s. and_left (in_segment g x) (not (is_replaced held g x.id)) s) e) in cc)

-- ---- what is picked

picked_text-greatest : (o : Option Operation) → picked_text (greatest o) ≡ text_if_any o
picked_text-greatest None = refl
picked_text-greatest (Some o) = refl

-- a head that wants the line of its chapter is picked as that line
pub picked_line : (held : List Operation) (g : Segment) → wants_chapter_line held g ≡ true
    → picked_text (pick held g) ≡ chapter_line g.key.chapter
picked_line held g h = ap picked_text (cond-true _ _ _ h)

-- a segment that wants no line is picked as its own text
pub picked_own : (held : List Operation) (g : Segment) → wants_chapter_line held g ≡ false → picked_text (pick held g) ≡ text_of held g
picked_own held g h = ap picked_text (cond-false _ _ _ h) ∙ picked_text-greatest (last (shown held g))

-- what a segment that wants a chapter line is
pub record WantsLine (held : List Operation) (g : Segment) : Type 0 where
  pub key_is : g.key ≡ chapter_head g.key.chapter
  pub some : 1 ≤ g.key.chapter
  pub verse : has_verse_text held g.book g.key.chapter ≡ true

place_is_head : (p : Place) → is_head p ≡ true → p ≡ Head
place_is_head Head h = refl
place_is_head (Verse n l) h = absurd (cc)

-- what it means that a head wants the line of its chapter
pub wants_line : (held : List Operation) (g : Segment) → wants_chapter_line held g ≡ true → WantsLine held g
wants_line held g h =
    let a = and_parts (is_head g.key.place && nat_le 1 g.key.chapter && is_empty (text_of held g))
    (has_verse_text held g.book g.key.chapter) h in
    let b = and_parts (is_head g.key.place && nat_le 1 g.key.chapter) (is_empty (text_of held g)) a.0 in
    let c = and_parts (is_head g.key.place) (nat_le 1 g.key.chapter) b.0 in
    record {
      key_is = ap (λ (p : Place). record { chapter = g.key.chapter; place = p }) (place_is_head g.key.place c.0);
      some = leb-true 1 g.key.chapter c.1;
      verse = a.1;
    }

-- a verse of a chapter of a set is in a chapter up to 999
is_small : (o : Operation) → IsOperation o → o.segment.key.chapter ≤ 999
is_small o h =
    let g = and_parts (is_book_code o.segment.book) (is_key o.segment.key.chapter o.segment.key.place) h.segment in
    leb-true o.segment.key.chapter 999 (and_parts (nat_le o.segment.key.chapter 999) (is_place o.segment.key.place) g.1).0

verse_parts : (book : List ℕ) (chapter : ℕ) (o : Operation) → is_verse_in book chapter o ≡ true
    → (o.segment.book ≡ book) × (o.segment.key.chapter ≡ chapter) × (is_head o.segment.key.place ≡ false)
verse_parts book chapter o h =
    let a = and_parts (same_bytes o.segment.book book) (is_verse_of chapter o.segment.key) h in
    let b = and_parts (o.segment.key.chapter == chapter) (not (is_head o.segment.key.place)) a.1 in
    (same_bytes-is o.segment.book book a.0, eqb-true o.segment.key.chapter chapter b.0, not-true (is_head o.segment.key.place) b.1)

-- what holds of the line of a chapter that wants one, of the text of an operation of the segment and of the empty text, holds
-- of what is picked
pub pick_cases : (held : List Operation) (book : List ℕ) (key : KeyParts) (P : List ℕ → Type 0) → IsOpSet held →
    (key ≡ chapter_head key.chapter → 1 ≤ key.chapter → key.chapter ≤ 999 → P (chapter_line key.chapter)) →
    ((o : Operation) → IsOf (segment book key) o → P (or_empty o.text)) → P [] →
    P (picked_at held book key)
pick_cases held book key P set line own none = by (wants_chapter_line held (segment book key)) refl
  where
    small : WantsLine held (segment book key) → key.chapter ≤ 999
    small w =
        let o = found_of IsOperation (is_verse_with_text held book key.chapter) held set.each w.verse in
        let v = verse_parts book key.chapter o.0
        (and_parts (is_verse_in book key.chapter o.0) (not (is_empty (text_of held o.0.segment))) o.2).0 in
        subst (λ n. n ≤ 999) v.1 (is_small o.0 o.1)

    shown_text : (l : Option Operation) → last (shown held (segment book key)) ≡ l → P (text_if_any l)
    shown_text None e = none
    shown_text (Some o) e = own o (shown_last held (segment book key) o set e)

    by : (w : Bool) → wants_chapter_line held (segment book key) ≡ w → P (picked_at held book key)
    by true e = let w = wants_line held (segment book key) e in
        subst P (sym (picked_line held (segment book key) e)) (line w.key_is w.some (small w))
    by false e = subst P (sym (picked_own held (segment book key) e)) (shown_text (last (shown held (segment book key))) refl)

-- what is picked for a segment fits it, or is empty
pub pick_fits : (held : List Operation) (book : List ℕ) (key : KeyParts) → IsOpSet held
    → (picked_at held book key ≡ []) ⊎ Fits book key (picked_at held book key)
pick_fits held book key set =
    pick_cases held book key (λ t. (t ≡ []) ⊎ Fits book key t) set
    (λ head some small. inr (subst (λ k. Fits book k (chapter_line key.chapter)) (sym head)
    (chapter_lines_fit book key.chapter some small)))
    (λ o is. own o.text (subst (λ (g : Segment). MayBeText g o.text) is.segment is.is_operation.text))
    (inl refl)
  where
    own : (t : Option (List ℕ)) → MayBeText (segment book key) t → (or_empty t ≡ []) ⊎ Fits book key (or_empty t)
    own None h = inl refl
    own (Some t) h = inr h.fits

-- and it is UTF-8
line_is_text : (n : ℕ) → n ≤ 999 → IsUtf8 (chapter_line n)
line_is_text n h =
    IsUtf8-from_ascii (chapter_line n)
    (IsAscii-append (codes "\\c " ++ decimal n) (10 ∷ [])
    (IsAscii-append (codes "\\c ") (decimal n) front (IsAscii-decimal n (omega arith))) (IsAscii-cons 10 [] (omega arith) IsAscii-nil))
  where
    front : IsAscii (codes "\\c ")
    front = IsAscii-cons 92 (99 ∷ 32 ∷ []) (omega arith)
        (IsAscii-cons 99 (32 ∷ []) (omega arith) (IsAscii-cons 32 [] (omega arith) IsAscii-nil))

-- what a set has for a key of a book is UTF-8
pub pick_is_text : (held : List Operation) (book : List ℕ) (key : KeyParts) → IsOpSet held → IsUtf8 (picked_at held book key)
pick_is_text held book key set =
    pick_cases held book key IsUtf8 set (λ head some small. line_is_text key.chapter small)
    (λ o is. own o.segment o.text is.is_operation.text) IsUtf8-nil
  where
    own : (g : Segment) (t : Option (List ℕ)) → MayBeText g t → IsUtf8 (or_empty t)
    own g None h = IsUtf8-nil
    own g (Some t) h = h.utf8

-- ---- the keys of an export

-- a key is among those of a list with one more exactly if it is that one, or among them
any-with_item : (p : KeyParts → Bool) (k : KeyParts) (ks : List KeyParts) → list_any p (with_item key_cmp k ks) ≡ (p k || list_any p ks)
any-with_item p k [] = refl
any-with_item p k (x ∷ ks) = by (any-with_item p k ks) (key_cmp k x) refl
  where
    by : list_any p (with_item key_cmp k ks) ≡ (p k || list_any p ks) → (r : Ordering) → key_cmp k x ≡ r
        → list_any p (by_order r (k ∷ x ∷ ks) (x ∷ ks) (x ∷ with_item key_cmp k ks)) ≡ (p k || (p x || list_any p ks))
    by later Less e = refl
    by later Equal e = sym (or_twice (p x) (list_any p ks)) ∙ ap (λ (y : KeyParts). p y || (p x || list_any p ks)) (sym (key_exact k x e))
    by later Greater e = ap (λ b. p x || b) later ∙ or_swap (p x) (p k) (list_any p ks)

-- putting keys in order keeps whether one of them passes a test
pub any-rising : (p : KeyParts → Bool) (ks : List KeyParts) → list_any p (rising key_cmp ks) ≡ list_any p ks
any-rising p [] = refl
any-rising p (k ∷ ks) = any-with_item p k (rising key_cmp ks) ∙ ap (λ b. p k || b) (any-rising p ks)

-- the keys that an operation of the book gives
abbrev gives_key : List ℕ → KeyParts → Operation → Bool
gives_key book key o = of_book book o && (same_key key (head_of o.segment.key) || same_key key o.segment.key)

keys_given : (held : List Operation) (book : List ℕ) (key : KeyParts) → list_any (gives_key book key) held ≡ true
    → list_any (same_key key) (flat_map (λ k. head_of k ∷ k ∷ []) (keys_in held book)) ≡ true
keys_given [] book key h = h
keys_given (o ∷ held) book key h = by (keys_given held book key) (of_book book o) h
  where
    three : (a b c d : Bool) → (d ≡ true → c ≡ true) → ((a || b) || d) ≡ true → (a || (b || c)) ≡ true
    three true b c d f h = refl
    three false true c d f h = refl
    three false false c d f h = f h

    by : (list_any (gives_key book key) held ≡ true
        → list_any (same_key key) (flat_map (λ k. head_of k ∷ k ∷ []) (keys_in held book)) ≡ true) → (b : Bool) → ((b
        && (same_key key (head_of o.segment.key)
        || same_key key o.segment.key)) || list_any (gives_key book key) held) ≡ true
        → list_any (same_key key) (flat_map (λ k. head_of k ∷ k ∷ [])
        (map (λ p. p.segment.key) (cond b (o ∷ filter (of_book book) held) (filter (of_book book) held)))) ≡ true
    by later true h =
        three (same_key key (head_of o.segment.key)) (same_key key o.segment.key) _ (list_any (gives_key book key) held) later h
    by later false h = later h

pub key_exported : (held : List Operation) (book : List ℕ) (key : KeyParts) → list_any (gives_key book key) held ≡ true
    → list_any (same_key key) (exported_keys held book) ≡ true
key_exported held book key h =
    any-rising (same_key key) (flat_map (λ k. head_of k ∷ k ∷ []) (keys_in held book)) ∙ keys_given held book key h

-- an operation of a segment gives the segment's key
gives_own : (book : List ℕ) (key : KeyParts) (o : Operation) → in_segment (segment book key) o ≡ true → gives_key book key o ≡ true
gives_own book key o h =
    let is = same_segment-is o.segment (segment book key) h in
    and_from (of_book book o) _ (ap (λ (g : Segment). same_bytes g.book book) is ∙ same_bytes-refl book)
    (or_right (same_key key (head_of o.segment.key)) (same_key key o.segment.key)
    (ap (λ (g : Segment). same_key key g.key) is ∙ same_key-refl key))

-- an operation of a verse gives the head of its chapter
gives_head : (held : List Operation) (book : List ℕ) (chapter : ℕ) (o : Operation) → is_verse_with_text held book chapter o ≡ true
    → gives_key book (chapter_head chapter) o ≡ true
gives_head held book chapter o h =
    let v = verse_parts book chapter o (and_parts (is_verse_in book chapter o) (not (is_empty (text_of held o.segment))) h).0 in
    and_from (of_book book o) _ (ap (λ b. same_bytes b book) v.0 ∙ same_bytes-refl book)
    (or_left (same_key (chapter_head chapter) (head_of o.segment.key)) (same_key (chapter_head chapter) o.segment.key)
    (ap (λ n. same_key (chapter_head chapter) (chapter_head n)) v.1 ∙ same_key-refl (chapter_head chapter)))

-- a segment with a text that is not empty has an operation
pub text_held : (held : List Operation) (g : Segment) → is_empty (text_of held g) ≡ false → list_any (in_segment g) held ≡ true
text_held held g h = by (last (shown held g)) refl h
  where
    by : (l : Option Operation) → last (shown held g) ≡ l → is_empty (text_if_any l) ≡ false → list_any (in_segment g) held ≡ true
    by None e h = absurd (cc)
    by (Some o) e h = last_held held g o e

-- a verse of a chapter, with a text that is not empty
pub record FilledVerse (held : List Operation) (book : List ℕ) (chapter : ℕ) : Type 0 where
  pub key : KeyParts
  pub verse : is_verse_of chapter key ≡ true
  pub some : is_empty (text_of held (segment book key)) ≡ false

-- where some verse of a chapter has a text, it is at a key
pub filled_verse : (held : List Operation) (book : List ℕ) (chapter : ℕ) → has_verse_text held book chapter ≡ true
    → FilledVerse held book chapter
filled_verse held book chapter h =
    let found = Any-from_list_any (is_verse_with_text held book chapter) held h in
    let g : Segment = found.1.segment in
    let a = and_parts (is_verse_in book chapter found.1) (not (is_empty (text_of held g))) found.4 in
    let b = and_parts (same_bytes g.book book) (is_verse_of chapter g.key) a.0 in
    let is : g ≡ segment book g.key = λ i. segment (same_bytes-is g.book book b.0 i) g.key in
    record {
      key = g.key;
      verse = b.1;
      some = ap (λ (s : Segment). is_empty (text_of held s)) (sym is) ∙ not-true (is_empty (text_of held g)) a.1;
    }

-- and where a verse has one, some verse of its chapter has
pub has_filled_verse : (held : List Operation) (book : List ℕ) (chapter : ℕ) → FilledVerse held book chapter
    → has_verse_text held book chapter ≡ true
has_filled_verse held book chapter v =
    let g = segment book v.key in
    any_weaker (in_segment g) (is_verse_with_text held book chapter)
    (λ o e. ap (λ (s : Segment). (same_bytes s.book book && is_verse_of chapter s.key) && not (is_empty (text_of held s)))
    (same_segment-is o.segment g e)
    ∙ and_from _ _ (and_from _ _ (same_bytes-refl book) v.verse) (ap not v.some))
    held (text_held held g v.some)

-- the texts of an export are what is picked at its keys
pub picks_are_exported : PicksAreExported
picks_are_exported held book key h = by (wants_chapter_line held (segment book key)) refl
  where
    by : (w : Bool) → wants_chapter_line held (segment book key) ≡ w → list_any (same_key key) (exported_keys held book) ≡ true
    by true e =
        let w = wants_line held (segment book key) e in
        subst (λ k. list_any (same_key k) (exported_keys held book) ≡ true) (sym w.key_is)
        (key_exported held book (chapter_head key.chapter)
        (any_weaker (is_verse_with_text held book key.chapter) (gives_key book (chapter_head key.chapter))
        (gives_head held book key.chapter) held w.verse))
    by false e =
        let some = text_held held (segment book key) (ap is_empty (sym (picked_own held (segment book key) e)) ∙ h) in
        key_exported held book key (any_weaker (in_segment (segment book key)) (gives_key book key) (gives_own book key) held some)

-- the head of a verse's chapter has a text that is not empty, where the verse has one and is not of chapter 0
pub head_picked : (held : List Operation) (book : List ℕ) (key : KeyParts) → is_empty (picked_at held book key) ≡ false
    → is_head key.place ≡ false → 1 ≤ key.chapter → is_empty (picked_at held book (head_of key)) ≡ false
head_picked held book key h verse some = by (is_empty (text_of held head)) refl
  where
    head : Segment
    head = segment book (head_of key)

    no_line : wants_chapter_line held (segment book key) ≡ false
    no_line =
        ap (λ b. b && nat_le 1 key.chapter && is_empty (text_of held (segment book key)) && has_verse_text held book key.chapter) verse

    some_text : is_empty (text_of held (segment book key)) ≡ false
    some_text = ap is_empty (sym (picked_own held (segment book key) no_line)) ∙ h

    has_verse : has_verse_text held book key.chapter ≡ true
    has_verse = has_filled_verse held book key.chapter record {
      key = key;
      verse = and_from (key.chapter == key.chapter) (not (is_head key.place)) (eq-eqb key.chapter key.chapter refl) (ap not verse);
      some = some_text;
    }

    by : (e : Bool) → is_empty (text_of held (segment book (head_of key))) ≡ e → is_empty (picked_at held book (head_of key)) ≡ false
    by true e = ap is_empty (picked_line held (segment book (head_of key))
        (and_from (nat_le 1 key.chapter && is_empty (text_of held (segment book (head_of key)))) (has_verse_text held book key.chapter)
        (and_from (nat_le 1 key.chapter) (is_empty (text_of held (segment book (head_of key)))) (le-leb 1 key.chapter some) e) has_verse))
    by false e = ap is_empty
        (picked_own held (segment book (head_of key))
        (ap (λ b. nat_le 1 key.chapter && b && has_verse_text held book key.chapter) e
        ∙ none (nat_le 1 key.chapter) (has_verse_text held book key.chapter))) ∙ e
      where
        none : (a b : Bool) → (a && false && b) ≡ false
        none true b = refl
        none false b = refl
