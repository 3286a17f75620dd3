-- The chapters of a book stand side by side in an index: a walk over them alone gives its keys.
use Rattle.std.proofs.Common.{◌≡◌, ℕ, suc, arith, Bool, true, false, not, cond, nat_lt, ◌==◌, ◌+◌, List, [], ◌∷◌, ◌++◌, take, drop, refl, sym, ap, ◌∙◌}
use Rattle.std.specs.declared.cmp.Ordering.{Ordering}
use Rattle.std.specs.declared.cmp.Ordering.TheVariants.{Less, Equal, Greater}
use Rattle.std.specs.Ordering.{is_lt, ordering_then, ordering_reverse}
use Rattle.std.specs.List.{list_all, position_or_len, prefix_len}
use Rattle.std.specs.Cmp.{tied_itself}
use Rattle.std.proofs.lemmas.Bool.{and_parts, false≢true}
use Rattle.std.proofs.lemmas.Bool.Decides.{nat_tests}
use Rattle.usfm_ref.specs.Books.{same_bytes, book_cmp}
use Rattle.usfm_ref.specs.Keys.{KeyParts, book_head, key_cmp, place_cmp}
use Rattle.usfm_ref.specs.Segments.{segment, segment_cmp}
use Rattle.usfm_ref.specs.declared.key.Place.{Place}
use Rattle.usfm_ref.specs.declared.key.Place.TheVariants.{Head, Verse}
use Rattle.usfm_ref.proofs.Orders.{book_total, book_exact, same_bytes-is, same_bytes-refl}
use Rattle.op_core.specs.Loops.Index.{home_of, chapter_of, kept_keys, chapter_keys}
use Rattle.op_core.specs.declared.index.chapter.Chapter.{Chapter}
use Rattle.op_core.proofs.Indexed.Chapters.{chapters_rise}

-- whether a chapter is before the head of a book
abbrev is_before : List ℕ → Chapter → Bool
is_before book c = is_lt (segment_cmp (home_of c) (chapter_of (segment book book_head)))

-- no key is before the head of its book
below_zero : (n : ℕ) → nat_lt n 0 ≡ false
below_zero n = grind (arith, nat_tests)

before_head : (p : Place) → is_lt (place_cmp p Head) ≡ false
before_head Head = refl
before_head (Verse n l) = refl

none_before : (k : KeyParts) → is_lt (key_cmp k book_head) ≡ false
none_before k =
    ap (λ (t : Bool). is_lt (ordering_then (cond t Less (cond (k.chapter == 0) Equal Greater)) (place_cmp k.place Head)))
    (below_zero k.chapter)
    ∙ by (k.chapter == 0)
  where
    by : (t : Bool) → is_lt (ordering_then (cond t Equal Greater) (place_cmp k.place Head)) ≡ false
    by true = before_head k.place
    by false = refl

-- so a chapter before the head of a book is of another one
other_before : (book : List ℕ) (c : Chapter) → is_before book c ≡ true → same_bytes c.book book ≡ false
other_before book c h = by (same_bytes c.book book) refl
  where
    by : (t : Bool) → same_bytes c.book book ≡ t → t ≡ false
    by false e = refl
    by true e =
        let tied : book_cmp c.book book ≡ Equal = ap (λ b. book_cmp b book) (same_bytes-is c.book book e) ∙ tied_itself book_total book in
        absurd (false≢true
        (sym (none_before c.head) ∙ ap (λ (o : Ordering). is_lt (ordering_then o (key_cmp c.head book_head))) (sym tied) ∙ h))

-- a chapter that is not before the head of a book is of no earlier book
not_earlier : (book : List ℕ) (c : Chapter) → is_before book c ≡ false → is_lt (book_cmp c.book book) ≡ false
not_earlier book c h = by (book_cmp c.book book) h
  where
    by : (o : Ordering) → is_lt (ordering_then o (key_cmp c.head book_head)) ≡ false → is_lt o ≡ false
    by Less h = h
    by Equal h = refl
    by Greater h = refl

-- no chapter after one of a later book is of the book
none_later : (book : List ℕ) (c : Chapter) (cs : List Chapter) → is_lt (book_cmp c.book book) ≡ false → same_bytes c.book book ≡ false
    → list_all (λ d. is_lt (segment_cmp (home_of c) (home_of d))) cs ≡ true → chapter_keys book cs ≡ []
none_later book c [] n other l = refl
none_later book c (d ∷ cs) n other l =
    let p = and_parts (is_lt (segment_cmp (home_of c) (home_of d))) (list_all (λ d. is_lt (segment_cmp (home_of c) (home_of d))) cs) l in
    (λ i. cond (apart p.0 i) (kept_keys d.registers.items) [] ++ none_later book c cs n other p.1 i)
  where
    later : (o : Ordering) → book_cmp c.book book ≡ o → is_lt o ≡ false → is_lt (ordering_then o (key_cmp c.head d.head)) ≡ true
        → false ≡ true
    later Less e n l = sym n
    later Equal e n l = sym other ∙ ap (λ b. same_bytes b book) (book_exact c.book book e) ∙ same_bytes-refl book
    later Greater e n l = l

    apart : is_lt (segment_cmp (home_of c) (home_of d)) ≡ true → same_bytes d.book book ≡ false
    apart l = by (same_bytes d.book book) refl
      where
        by : (t : Bool) → same_bytes d.book book ≡ t → t ≡ false
        by false e = refl
        by true e =
            let same : d.book ≡ book = same_bytes-is d.book book e in
            absurd (false≢true (later (book_cmp c.book book) refl n
            (ap (λ b. is_lt (ordering_then (book_cmp c.book b) (key_cmp c.head d.head))) (sym same) ∙ l)))

-- a list of chapters does not begin with one of an earlier book
abbrev BeginsAt : List ℕ → List Chapter → Type 0
BeginsAt book [] = Unit {0}
BeginsAt book (c ∷ cs) = is_lt (book_cmp c.book book) ≡ false

-- nor does what comes after a chapter of the book
goes_on : (book : List ℕ) (c : Chapter) (cs : List Chapter) → same_bytes c.book book ≡ true
    → list_all (λ d. is_lt (segment_cmp (home_of c) (home_of d))) cs ≡ true → BeginsAt book cs
goes_on book c [] e l = tt
goes_on book c (d ∷ ds) e l = after (book_cmp c.book d.book) refl (and_parts (is_lt (segment_cmp (home_of c) (home_of d))) _ l).0
  where
    side : (o : Ordering) → is_lt (ordering_then o (key_cmp c.head d.head)) ≡ true → is_lt (ordering_reverse o) ≡ false
    side Less l = refl
    side Equal l = refl
    side Greater l = absurd (false≢true l)

    after : (o : Ordering) → book_cmp c.book d.book ≡ o → is_lt (ordering_then o (key_cmp c.head d.head)) ≡ true
        → is_lt (book_cmp d.book book) ≡ false
    after o f l =
        let turned : book_cmp d.book book ≡ ordering_reverse o =
        book_total.antisymm d.book book
        ∙ ap ordering_reverse (ap (λ b. book_cmp b d.book) (sym (same_bytes-is c.book book e)) ∙ f) in
        ap is_lt turned ∙ side o l

-- the chapters at the front that are of a book are all of them, where the first is of no earlier one
own_chapters : (book : List ℕ) (cs : List Chapter) → chapters_rise cs ≡ true → BeginsAt book cs
    → chapter_keys book (take (prefix_len (λ d. same_bytes d.book book) cs) cs) ≡ chapter_keys book cs
own_chapters book [] h n = refl
own_chapters book (c ∷ cs) h n = by (same_bytes c.book book) refl (λ e. own_chapters book cs p.1 (goes_on book c cs e p.0))
  where
    p : (list_all (λ d. is_lt (segment_cmp (home_of c) (home_of d))) cs ≡ true) × (chapters_rise cs ≡ true)
    p = and_parts (list_all (λ d. is_lt (segment_cmp (home_of c) (home_of d))) cs) (chapters_rise cs) h

    one_more : (n : ℕ) → chapter_keys book (take (1 + n) (c ∷ cs))
        ≡ cond (same_bytes c.book book) (kept_keys c.registers.items) [] ++ chapter_keys book (take n cs)
    one_more n = let e : 1 + n ≡ suc n = omega arith in ap (λ m. chapter_keys book (take m (c ∷ cs))) e

    by : (t : Bool) → same_bytes c.book book ≡ t → (same_bytes c.book book ≡ true
        → chapter_keys book (take (prefix_len (λ d. same_bytes d.book book) cs) cs) ≡ chapter_keys book cs)
        → chapter_keys book (take (prefix_len (λ d. same_bytes d.book book) (c ∷ cs)) (c ∷ cs)) ≡ chapter_keys book (c ∷ cs)
    by true e rest =
        ap (λ (t : Bool). chapter_keys book (take (cond t (1 + prefix_len (λ d. same_bytes d.book book) cs) 0) (c ∷ cs))) e
        ∙ one_more (prefix_len (λ d. same_bytes d.book book) cs)
        ∙ ap (λ ks. cond (same_bytes c.book book) (kept_keys c.registers.items) [] ++ ks) (rest e)
    by false e rest =
        ap (λ (t : Bool). chapter_keys book (take (cond t (1 + prefix_len (λ d. same_bytes d.book book) cs) 0) (c ∷ cs))) e
        ∙ sym ((λ i. cond (e i) (kept_keys c.registers.items) [] ++ chapter_keys book cs) ∙ none_later book c cs n e p.0)

-- the keys of a book are those of its chapters, which begin where none is before its head
pub book_chapters : (book : List ℕ) (cs : List Chapter) → chapters_rise cs ≡ true →
    let later = drop (position_or_len (λ c. not (is_before book c)) cs) cs in
    chapter_keys book (take (prefix_len (λ c. same_bytes c.book book) later) later) ≡ chapter_keys book cs
book_chapters book [] h = refl
book_chapters book (c ∷ cs) h = by (is_before book c) (book_chapters book cs (and_parts _ (chapters_rise cs) h).1) refl
  where
    keys : List Chapter → List KeyParts
    keys later = chapter_keys book (take (prefix_len (λ d. same_bytes d.book book) later) later)

    one_less : (n : ℕ) → keys (drop (1 + n) (c ∷ cs)) ≡ keys (drop n cs)
    one_less n = let e : 1 + n ≡ suc n = omega arith in ap (λ m. keys (drop m (c ∷ cs))) e

    by : (t : Bool) → keys (drop (position_or_len (λ d. not (is_before book d)) cs) cs) ≡ chapter_keys book cs → is_before book c ≡ t
        → keys (drop (position_or_len (λ d. not (is_before book d)) (c ∷ cs)) (c ∷ cs)) ≡ chapter_keys book (c ∷ cs)
    by true later e =
        ap (λ (t : Bool). keys (drop (cond (not (not t)) (1 + position_or_len (λ d. not (is_before book d)) cs) 0) (c ∷ cs))) e
        ∙ one_less (position_or_len (λ d. not (is_before book d)) cs)
        ∙ later
        ∙ (λ i. cond (sym (other_before book c e) i) (kept_keys c.registers.items) [] ++ chapter_keys book cs)
    by false later e =
        ap (λ (t : Bool). keys (drop (cond (not (not t)) (1 + position_or_len (λ d. not (is_before book d)) cs) 0) (c ∷ cs))) e
        ∙ own_chapters book (c ∷ cs) h (not_earlier book c e)
