-- A walk over the index gives the books with an operation.
use Rattle.std.proofs.Common.{◌≡◌, ℕ, Bool, true, false, not, cond, ◌&&◌, ◌||◌, List, [], ◌∷◌, Option, Some, None, map, refl, sym, ap, ◌∙◌}
use Rattle.std.specs.declared.cmp.Ordering.{Ordering}
use Rattle.std.specs.declared.cmp.Ordering.TheVariants.{Less, Equal, Greater}
use Rattle.std.specs.Ordering.{is_eq, is_lt, ordering_then, ordering_reverse}
use Rattle.std.specs.List.{list_any, list_all}
use Rattle.std.proofs.lemmas.Bool.{and_parts, and_from, true≢false, false≢true}
use Rattle.usfm_ref.specs.Books.{same_bytes, book_cmp}
use Rattle.usfm_ref.specs.Keys.{key_cmp}
use Rattle.usfm_ref.specs.Segments.{segment_cmp}
use Rattle.usfm_ref.specs.Rising.{rises_by}
use Rattle.usfm_ref.proofs.Orders.{book_total, book_exact, same_bytes-is, same_bytes-refl}
use Rattle.usfm_ref.proofs.Sorted.{above_trans, rises-rising}
use Rattle.usfm_ref.proofs.Members.{same_tested, tested_rising}
use Rattle.op_core.specs.Ops.{Operation}
use Rattle.op_core.specs.Sets.{IsOpSet}
use Rattle.op_core.specs.Lists.{books_of}
use Rattle.op_core.specs.Loops.Index.{home_of, is_kept, is_last, books_left, IsIndex}
use Rattle.op_core.specs.declared.index.register.Register.{Register}
use Rattle.op_core.specs.declared.index.chapter.Chapter.{Chapter}
use Rattle.op_core.proofs.Indexed.Chapters.{chapters_rise}
use Rattle.op_core.proofs.Indexed.Walks.{any_in}
use Rattle.op_core.proofs.Indexed.IndexSegments.{same_segments}

-- ---- the walk's books rise

abbrev books_rise : List (List ℕ) → Bool
books_rise = rises_by book_cmp (λ b. b)

-- no chapter is of an earlier book
abbrev NoneBefore : List ℕ → List Chapter → Type 0
NoneBefore b cs = list_all (λ d. not (is_lt (book_cmp d.book b))) cs ≡ true

not_before : (c d : Chapter) → is_lt (segment_cmp (home_of c) (home_of d)) ≡ true → not (is_lt (book_cmp d.book c.book)) ≡ true
not_before c d l = by (book_cmp c.book d.book) refl l
  where
    by : (o : Ordering) → book_cmp c.book d.book ≡ o → is_lt (ordering_then o (key_cmp c.head d.head)) ≡ true
        → not (is_lt (book_cmp d.book c.book)) ≡ true
    by Less e l = ap (λ (o : Ordering). not (is_lt o)) (book_total.antisymm d.book c.book ∙ ap ordering_reverse e)
    by Equal e l = ap (λ (o : Ordering). not (is_lt o)) (book_total.antisymm d.book c.book ∙ ap ordering_reverse e)
    by Greater e l = absurd (false≢true l)

none_before : (c : Chapter) (cs : List Chapter) → list_all (λ d. is_lt (segment_cmp (home_of c) (home_of d))) cs ≡ true
    → NoneBefore c.book cs
none_before c [] h = refl
none_before c (d ∷ cs) h =
    let p =
    and_parts (is_lt (segment_cmp (home_of c) (home_of d))) (list_all (λ d. is_lt (segment_cmp (home_of c) (home_of d))) cs) h in
    and_from _ _ (not_before c d p.0) (none_before c cs p.1)

abbrev Over : List ℕ → List (List ℕ) → Type 0
Over b bs = list_all (λ y. is_lt (book_cmp b y)) bs ≡ true

-- a book that is neither before another nor the same is after it
is_after : (b d : List ℕ) → not (is_lt (book_cmp d b)) ≡ true → same_bytes b d ≡ false → book_cmp b d ≡ Less
is_after b d h n = by (book_cmp b d) refl
  where
    by : (o : Ordering) → book_cmp b d ≡ o → o ≡ Less
    by Less e = refl
    by Equal e = absurd (true≢false (sym (ap (same_bytes b) (sym (book_exact b d e)) ∙ same_bytes-refl b) ∙ n))
    by Greater e = absurd (false≢true (sym (ap (λ (o : Ordering). not (is_lt o)) (book_total.antisymm d b ∙ ap ordering_reverse e)) ∙ h))

over_left : (b : List ℕ) (cs : List Chapter) → NoneBefore b cs → chapters_rise cs ≡ true → Over b (books_left (Some b) cs)
over_left b [] h r = refl
over_left b (c ∷ cs) h r = by (over_left b cs p.1 q.1) (over_left c.book cs (none_before c cs q.0) q.1)
    (list_any is_kept c.registers.items) (same_bytes b c.book) refl
  where
    p : (not (is_lt (book_cmp c.book b)) ≡ true) × NoneBefore b cs
    p = and_parts (not (is_lt (book_cmp c.book b))) (list_all (λ d. not (is_lt (book_cmp d.book b))) cs) h

    q : (list_all (λ d. is_lt (segment_cmp (home_of c) (home_of d))) cs ≡ true) × (chapters_rise cs ≡ true)
    q = and_parts (list_all (λ d. is_lt (segment_cmp (home_of c) (home_of d))) cs) (chapters_rise cs) r

    by : Over b (books_left (Some b) cs) → Over c.book (books_left (Some c.book) cs) → (k e : Bool) → same_bytes b c.book ≡ e
        → Over b (cond (k && not e) (c.book ∷ books_left (Some c.book) cs) (books_left (Some b) cs))
    by one other true false f =
        let less : book_cmp b c.book ≡ Less = is_after b c.book p.0 f in
        and_from _ _ (ap is_lt less) (above_trans book_cmp book_total (λ (x : List ℕ). x) b c.book (books_left (Some c.book) cs) less other)
    by one other true true f = one
    by one other false e f = one

left_rises : (last : Option (List ℕ)) (cs : List Chapter) → chapters_rise cs ≡ true → books_rise (books_left last cs) ≡ true
left_rises last [] r = refl
left_rises last (c ∷ cs) r =
    let q = and_parts (list_all (λ d. is_lt (segment_cmp (home_of c) (home_of d))) cs) (chapters_rise cs) r in
    elim (list_any is_kept c.registers.items && not (is_last last c.book)) as
    (λ b. books_rise (cond b (c.book ∷ books_left (Some c.book) cs) (books_left last cs)) ≡ true) [
      | true ↦ and_from _ _ (over_left c.book cs (none_before c cs q.0) q.1) (left_rises (Some c.book) cs q.1)
      | false ↦ left_rises last cs q.1
    ]

-- ---- the walk's books are those of the operations

module _ (q : List ℕ) where
  abbrev told : Option (List ℕ) → Bool
  told None = false
  told (Some a) = is_eq (book_cmp q a)

  any_left : (last : Option (List ℕ)) (cs : List Chapter)
      → (list_any (λ b. is_eq (book_cmp q b)) (books_left last cs) || told last)
      ≡ (list_any (λ c. is_eq (book_cmp q c.book) && list_any is_kept c.registers.items) cs || told last)
  any_left last [] = refl
  any_left last (c ∷ cs) =
      by last (any_left last cs) (any_left (Some c.book) cs) (list_any is_kept c.registers.items) (is_last last c.book) refl
    where
      by : (last : Option (List ℕ))
          → (list_any (λ b. is_eq (book_cmp q b)) (books_left last cs) || told last)
          ≡ (list_any (λ c. is_eq (book_cmp q c.book) && list_any is_kept c.registers.items) cs || told last)
          → (list_any (λ b. is_eq (book_cmp q b)) (books_left (Some c.book) cs) || is_eq (book_cmp q c.book))
          ≡ (list_any (λ c. is_eq (book_cmp q c.book) && list_any is_kept c.registers.items) cs || is_eq (book_cmp q c.book))
          → (k e : Bool) → is_last last c.book ≡ e
          → (list_any (λ b. is_eq (book_cmp q b)) (cond (k && not e) (c.book ∷ books_left (Some c.book) cs) (books_left last cs))
          || told last) ≡ (((is_eq (book_cmp q c.book) && k)
          || list_any (λ c. is_eq (book_cmp q c.book) && list_any is_kept c.registers.items) cs) || told last)
      by last one other false e f = one
          ∙ ap (λ b. (b || list_any (λ c. is_eq (book_cmp q c.book) && list_any is_kept c.registers.items) cs) || told last)
          (never (is_eq (book_cmp q c.book)))
        where
          never : (b : Bool) → false ≡ (b && false)
          never true = refl
          never false = refl
      by last one other true false f =
          ap (λ b. b || told last)
          (swap (is_eq (book_cmp q c.book)) (list_any (λ b. is_eq (book_cmp q b)) (books_left (Some c.book) cs)) ∙ other
          ∙ turn (list_any (λ c. is_eq (book_cmp q c.book) && list_any is_kept c.registers.items) cs) (is_eq (book_cmp q c.book)))
        where
          swap : (a b : Bool) → (a || b) ≡ (b || a)
          swap true true = refl
          swap true false = refl
          swap false true = refl
          swap false false = refl

          turn : (a b : Bool) → (a || b) ≡ ((b && true) || a)
          turn true true = refl
          turn true false = refl
          turn false true = refl
          turn false false = refl
      by None one other true true f = cc f
      by (Some a) one other true true f =
          one ∙ table (list_any (λ c. is_eq (book_cmp q c.book) && list_any is_kept c.registers.items) cs) (is_eq (book_cmp q a))
          (is_eq (book_cmp q c.book)) (ap (λ (b : List ℕ). is_eq (book_cmp q b)) (same_bytes-is a c.book f))
        where
          table : (r a b : Bool) → a ≡ b → (r || a) ≡ (((b && true) || r) || a)
          table true true true e = refl
          table false true true e = refl
          table r false false e = refl
          table r true false e = cc e
          table r false true e = cc e

  any_here : (t : Bool) (rs : List Register) → (t && list_any is_kept rs) ≡ list_any (λ r. t && is_kept r) rs
  any_here true rs = refl
  any_here false [] = refl
  any_here false (r ∷ rs) = any_here false rs

  any_chapters : (cs : List Chapter)
      → list_any (λ c. is_eq (book_cmp q c.book) && list_any is_kept c.registers.items) cs
      ≡ any_in (λ g r. is_eq (book_cmp q g.book) && is_kept r) cs
  any_chapters [] = refl
  any_chapters (c ∷ cs) = λ i. any_here (is_eq (book_cmp q c.book)) c.registers.items i || any_chapters cs i

  any_books : (ops : List Operation)
      → list_any (λ b. is_eq (book_cmp q b)) (map (λ o. o.segment.book) ops) ≡ list_any (λ o. is_eq (book_cmp q o.segment.book)) ops
  any_books [] = refl
  any_books (o ∷ ops) = ap (λ b. is_eq (book_cmp q o.segment.book) || b) (any_books ops)

pub books_are : (ops : List Operation) (chapters : List Chapter) → IsOpSet ops → IsIndex ops chapters
    → books_left None chapters ≡ books_of ops
books_are ops chapters s h =
    same_tested book_cmp book_total book_exact (books_left None chapters) (books_of ops) (left_rises None chapters h.orderly.rising)
    (rises-rising book_cmp book_total (map (λ (o : Operation). o.segment.book) ops)) (λ q.
    or_false (list_any (λ b. is_eq (book_cmp q b)) (books_left None chapters)) ∙ any_left q None chapters
    ∙ sym (or_false (list_any (λ c. is_eq (book_cmp q c.book) && list_any is_kept c.registers.items) chapters))
    ∙ any_chapters q chapters
    ∙ same_segments ops chapters s h (λ g. is_eq (book_cmp q g.book))
    ∙ sym (any_books q ops)
    ∙ sym (tested_rising book_cmp book_total book_exact q (map (λ (o : Operation). o.segment.book) ops)))
  where
    or_false : (b : Bool) → b ≡ (b || false)
    or_false true = refl
    or_false false = refl
