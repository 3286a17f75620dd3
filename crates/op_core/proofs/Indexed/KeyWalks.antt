-- A walk over the index gives the keys of a book with an operation.
use Rattle.std.proofs.Common.{◌≡◌, ℕ, Bool, true, false, cond, ◌&&◌, ◌||◌, List, [], ◌∷◌, ◌++◌, Some, map, filter, refl, sym, ap, ◌∙◌}
use Rattle.std.specs.declared.cmp.Ordering.{Ordering}
use Rattle.std.specs.declared.cmp.Ordering.TheVariants.{Less, Equal, Greater}
use Rattle.std.specs.Ordering.{is_eq, is_lt, nat_cmp, ordering_then}
use Rattle.std.specs.List.{list_any, list_all, AllByRecursion}
use Rattle.std.proofs.lemmas.Bool.{and_parts, and_from, false≢true}
use Rattle.usfm_ref.specs.Books.{same_bytes, book_cmp}
use Rattle.usfm_ref.specs.Keys.{KeyParts, key_cmp, place_cmp, head_of}
use Rattle.usfm_ref.specs.Segments.{segment, segment_cmp}
use Rattle.usfm_ref.specs.Rising.{rises_by}
use Rattle.usfm_ref.proofs.Orders.{key_total, key_exact, book_total, same_bytes-is}
use Rattle.usfm_ref.proofs.Sorted.{rises-rising}
use Rattle.usfm_ref.proofs.Members.{same_tested, tested_rising}
use Rattle.std.specs.Cmp.{tied_itself}
use Rattle.op_core.specs.Ops.{Operation}
use Rattle.op_core.specs.Sets.{IsOpSet}
use Rattle.op_core.specs.Export.{keys_in, of_book}
use Rattle.op_core.specs.Lists.{keys_of}
use Rattle.op_core.specs.Loops.Index.{home_of, register_of, is_kept, kept_keys, chapter_keys, IsIndex}
use Rattle.op_core.specs.declared.index.register.Register.{Register}
use Rattle.op_core.specs.declared.index.chapter.Chapter.{Chapter}
use Rattle.op_core.proofs.Indexed.Registers.{rise}
use Rattle.op_core.proofs.Indexed.Chapters.{chapters_rise}
use Rattle.op_core.proofs.Indexed.Walks.{any_in, IsOf, each_chapter, each_register}
use Rattle.op_core.proofs.Indexed.IndexSegments.{same_segments}

-- ---- the walk's keys rise

abbrev keys_rise : List KeyParts → Bool
keys_rise = rises_by key_cmp (λ k. k)

abbrev Over : KeyParts → List KeyParts → Type 0
Over k ks = list_all (λ y. is_lt (key_cmp k y)) ks ≡ true

over_append : (k : KeyParts) (xs ys : List KeyParts) → Over k xs → Over k ys → Over k (xs ++ ys)
over_append k [] ys h g = g
over_append k (x ∷ xs) ys h g =
    let p = and_parts (is_lt (key_cmp k x)) (list_all (λ y. is_lt (key_cmp k y)) xs) h in
    and_from _ _ p.0 (over_append k xs ys p.1 g)

rises_append : (xs ys : List KeyParts) → keys_rise xs ≡ true → keys_rise ys ≡ true → AllByRecursion (λ x. Over x ys) xs
    → keys_rise (xs ++ ys) ≡ true
rises_append [] ys h g a = g
rises_append (x ∷ xs) ys h g a =
    let p = and_parts (list_all (λ y. is_lt (key_cmp x y)) xs) (keys_rise xs) h in
    and_from _ _ (over_append x xs ys p.0 a.0) (rises_append xs ys p.1 g a.1)

over_kept : (k : KeyParts) (rs : List Register) → list_all (λ r. is_lt (key_cmp k r.key)) rs ≡ true → Over k (kept_keys rs)
over_kept k [] h = refl
over_kept k (r ∷ rs) h =
    let p = and_parts (is_lt (key_cmp k r.key)) (list_all (λ r. is_lt (key_cmp k r.key)) rs) h in
    elim (is_kept r) as (λ b. Over k (cond b (r.key ∷ kept_keys rs) (kept_keys rs))) [
      | true ↦ and_from _ _ p.0
          (over_kept k rs p.1)
      | false ↦ over_kept k rs p.1
    ]

kept_rise : (rs : List Register) → rise rs ≡ true → keys_rise (kept_keys rs) ≡ true
kept_rise [] h = refl
kept_rise (r ∷ rs) h =
    let p = and_parts (list_all (λ y. is_lt (key_cmp r.key y.key)) rs) (rise rs) h in
    elim (is_kept r) as (λ b. keys_rise (cond b (r.key ∷ kept_keys rs) (kept_keys rs))
    ≡ true) [ true ↦ and_from _ _ (over_kept r.key rs p.0) (kept_rise rs p.1) | false ↦ kept_rise rs p.1 ]

-- keys of an earlier chapter are before those of a later one
heads_less : (k l : KeyParts) → is_lt (key_cmp (head_of k) (head_of l)) ≡ true → is_lt (key_cmp k l) ≡ true
heads_less k l h = by (nat_cmp k.chapter l.chapter) h
  where
    by : (o : Ordering) → is_lt (ordering_then o Equal) ≡ true → is_lt (ordering_then o (place_cmp k.place l.place)) ≡ true
    by Less h = refl
    by Equal h = absurd (false≢true h)
    by Greater h = absurd (false≢true h)

abbrev AtHome : KeyParts → List Register → Type 0
AtHome head rs = AllByRecursion (λ r. head_of r.key ≡ head) rs

pub record IsGood (c : Chapter) : Type 0 where
  pub rises : rise c.registers.items ≡ true
  pub home : AtHome c.head c.registers.items

over_home : (k head other : KeyParts) (rs : List Register) → head_of k ≡ head → is_lt (key_cmp head other) ≡ true → AtHome other rs
    → list_all (λ r. is_lt (key_cmp k r.key)) rs ≡ true
over_home k head other [] e l h = refl
over_home k head other (r ∷ rs) e l h =
    and_from _ _ (heads_less k r.key ((λ i. is_lt (key_cmp (e i) (h.0 i))) ∙ l)) (over_home k head other rs e l h.1)

over_chapters : (book : List ℕ) (k : KeyParts) (c : Chapter) (cs : List Chapter) → c.book ≡ book → head_of k ≡ c.head
    → list_all (λ d. is_lt (segment_cmp (home_of c) (home_of d))) cs ≡ true → AllByRecursion IsGood cs → Over k (chapter_keys book cs)
over_chapters book k c [] b e l g = refl
over_chapters book k c (d ∷ cs) b e l g =
    let p =
    and_parts (is_lt (segment_cmp (home_of c) (home_of d))) (list_all (λ d. is_lt (segment_cmp (home_of c) (home_of d))) cs) l in
    over_append k _ (chapter_keys book cs) (by (same_bytes d.book book) refl p.0) (over_chapters book k c cs b e p.1 g.1)
  where
    by : (t : Bool) → same_bytes d.book book ≡ t → is_lt (segment_cmp (home_of c) (home_of d)) ≡ true
        → Over k (cond t (kept_keys d.registers.items) [])
    by false t l = refl
    by true t l =
        let same : d.book ≡ book = same_bytes-is d.book book t in
        let tied : book_cmp c.book d.book ≡ Equal = (λ i. book_cmp (b i) (same i)) ∙ tied_itself book_total book in
        let less : is_lt (key_cmp c.head d.head) ≡ true = ap (λ (o : Ordering). is_lt (ordering_then o (key_cmp c.head d.head))) (sym tied)
        ∙ l in
        over_kept k d.registers.items (over_home k c.head d.head d.registers.items e less g.0.home)

all_over : (book : List ℕ) (c : Chapter) (cs : List Chapter) (rs : List Register) → c.book ≡ book → AtHome c.head rs
    → list_all (λ d. is_lt (segment_cmp (home_of c) (home_of d))) cs ≡ true → AllByRecursion IsGood cs
    → AllByRecursion (λ x. Over x (chapter_keys book cs)) (kept_keys rs)
all_over book c cs [] b h l g = tt
all_over book c cs (r ∷ rs) b h l g = elim (is_kept r) as
    (λ t. AllByRecursion (λ x. Over x (chapter_keys book cs)) (cond t (r.key ∷ kept_keys rs) (kept_keys rs))) [
      | true ↦ (over_chapters book r.key c cs b h.0 l g, all_over book c cs rs b h.1 l g)
      | false ↦ all_over book c cs rs b h.1 l g
    ]

chapter_keys_rise : (book : List ℕ) (cs : List Chapter) → chapters_rise cs ≡ true → AllByRecursion IsGood cs
    → keys_rise (chapter_keys book cs) ≡ true
chapter_keys_rise book [] h g = refl
chapter_keys_rise book (c ∷ cs) h g = by (chapter_keys_rise book cs p.1 g.1) (same_bytes c.book book) refl
  where
    p : (list_all (λ d. is_lt (segment_cmp (home_of c) (home_of d))) cs ≡ true) × (chapters_rise cs ≡ true)
    p = and_parts (list_all (λ d. is_lt (segment_cmp (home_of c) (home_of d))) cs) (chapters_rise cs) h

    by : keys_rise (chapter_keys book cs) ≡ true → (t : Bool) → same_bytes c.book book ≡ t
        → keys_rise (cond t (kept_keys c.registers.items) [] ++ chapter_keys book cs) ≡ true
    by rest true e = rises_append (kept_keys c.registers.items) (chapter_keys book cs) (kept_rise c.registers.items g.0.rises) rest
        (all_over book c cs c.registers.items (same_bytes-is c.book book e) g.0.home p.0 g.1)
    by rest false e = rest

-- ---- the walk's keys are those of the operations

module _ (book : List ℕ) (q : KeyParts) where
  any_append : (xs ys : List KeyParts)
      → list_any (λ k. is_eq (key_cmp q k)) (xs ++ ys) ≡ (list_any (λ k. is_eq (key_cmp q k)) xs || list_any (λ k. is_eq (key_cmp q k)) ys)
  any_append [] ys = refl
  any_append (x ∷ xs) ys = ap (λ b. is_eq (key_cmp q x) || b) (any_append xs ys) ∙ regroup (is_eq (key_cmp q x)) _ _
    where
      regroup : (a b c : Bool) → (a || (b || c)) ≡ ((a || b) || c)
      regroup true b c = refl
      regroup false b c = refl

  any_kept : (b : List ℕ) (t : Bool) → same_bytes b book ≡ t → (rs : List Register)
      → list_any (λ k. is_eq (key_cmp q k)) (cond t (kept_keys rs) [])
      ≡ list_any (λ r. (same_bytes b book && is_eq (key_cmp q r.key)) && is_kept r) rs
  any_kept b t e [] = elim t as (λ t. list_any (λ k. is_eq (key_cmp q k)) (cond t [] []) ≡ false) [ true ↦ refl | false ↦ refl ]
  any_kept b true e (r ∷ rs) = by (any_kept b true e rs) (is_kept r)
    where
      one : (m : Bool) → m ≡ ((same_bytes b book && m) && true)
      one m = rw e (last m)
        where
          last : (m : Bool) → m ≡ ((true && m) && true)
          last true = refl
          last false = refl

      never : (c : Bool) → (c && false) ≡ false
      never true = refl
      never false = refl

      by : list_any (λ k. is_eq (key_cmp q k)) (kept_keys rs)
          ≡ list_any (λ r. (same_bytes b book && is_eq (key_cmp q r.key)) && is_kept r) rs → (k : Bool)
          → list_any (λ k. is_eq (key_cmp q k)) (cond k (r.key ∷ kept_keys rs) (kept_keys rs))
          ≡ (((same_bytes b book && is_eq (key_cmp q r.key)) && k)
          || list_any (λ r. (same_bytes b book && is_eq (key_cmp q r.key)) && is_kept r) rs)
      by rest true = λ i. one (is_eq (key_cmp q r.key)) i || rest i
      by rest false = rest ∙ ap (λ c. c || list_any (λ r. (same_bytes b book && is_eq (key_cmp q r.key)) && is_kept r) rs)
          (sym (never (same_bytes b book && is_eq (key_cmp q r.key))))
  any_kept b false e (r ∷ rs) = any_kept b false e rs
      ∙ ap (λ c. ((c && is_eq (key_cmp q r.key)) && is_kept r)
      || list_any (λ r. (same_bytes b book && is_eq (key_cmp q r.key)) && is_kept r) rs) (sym e)

  any_chapters : (cs : List Chapter)
      → list_any (λ k. is_eq (key_cmp q k)) (chapter_keys book cs)
      ≡ any_in (λ g r. (same_bytes g.book book && is_eq (key_cmp q g.key)) && is_kept r) cs
  any_chapters [] = refl
  any_chapters (c ∷ cs) = any_append (cond (same_bytes c.book book) (kept_keys c.registers.items) []) (chapter_keys book cs)
      ∙ (λ i. any_kept c.book (same_bytes c.book book) refl c.registers.items i || any_chapters cs i)

  any_keys_in : (ops : List Operation)
      → list_any (λ k. is_eq (key_cmp q k)) (keys_in ops book)
      ≡ list_any (λ o. same_bytes o.segment.book book && is_eq (key_cmp q o.segment.key)) ops
  any_keys_in [] = refl
  any_keys_in (o ∷ ops) = by (any_keys_in ops) (same_bytes o.segment.book book)
    where
      by : list_any (λ k. is_eq (key_cmp q k)) (keys_in ops book)
          ≡ list_any (λ o. same_bytes o.segment.book book && is_eq (key_cmp q o.segment.key)) ops → (b : Bool)
          → list_any (λ k. is_eq (key_cmp q k))
          (map (λ o. o.segment.key) (cond b (o ∷ filter (of_book book) ops) (filter (of_book book) ops)))
          ≡ ((b && is_eq (key_cmp q o.segment.key))
          || list_any (λ o. same_bytes o.segment.book book && is_eq (key_cmp q o.segment.key)) ops)
      by rest true = ap (λ b. is_eq (key_cmp q o.segment.key) || b) rest
      by rest false = rest

pub each_good : (ops : List Operation) (chapters : List Chapter) → IsIndex ops chapters → AllByRecursion IsGood chapters
each_good ops chapters h = over chapters (each_chapter chapters h.orderly)
  where
    over : (cs : List Chapter) → AllByRecursion (IsOf chapters h.orderly) cs → AllByRecursion IsGood cs
    over [] a = tt
    over (c ∷ cs) a = (
      record {
        rises = ap rise (sym a.0.its) ∙ h.orderly.registers (home_of c);
        home = homes c.registers.items (each_register chapters h.orderly c a.0);
      },
      over cs a.1,
    )
      where
        homes : (rs : List Register)
            → AllByRecursion (λ r. (register_of (segment c.book r.key) chapters ≡ Some r) × (head_of r.key ≡ c.head)) rs → AtHome c.head rs
        homes [] e = tt
        homes (r ∷ rs) e = (e.0.1, homes rs e.1)

pub keys_are : (ops : List Operation) (chapters : List Chapter) (book : List ℕ) → IsOpSet ops → IsIndex ops chapters
    → chapter_keys book chapters ≡ keys_of ops book
keys_are ops chapters book s h =
    same_tested key_cmp key_total key_exact (chapter_keys book chapters) (keys_of ops book)
    (chapter_keys_rise book chapters h.orderly.rising (each_good ops chapters h)) (rises-rising key_cmp key_total (keys_in ops book))
    (λ q.
    any_chapters book q chapters
    ∙ same_segments ops chapters s h (λ g. same_bytes g.book book && is_eq (key_cmp q g.key))
    ∙ sym (any_keys_in book q ops)
    ∙ sym (tested_rising key_cmp key_total key_exact q (keys_in ops book)))
