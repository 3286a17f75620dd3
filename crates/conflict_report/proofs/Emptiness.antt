-- Where a report is empty.
use Rattle.std.proofs.Common.{◌≡◌, ℕ, ◌≤◌, Bool, true, false, not, cond, ◌&&◌, ◌||◌, nat_le, suc, List, [], ◌∷◌, ◌++◌, length, map, filter, refl, sym, ap, subst, ◌∙◌, arith, Contains}
use Rattle.std.proofs.lemmas.List.{length-reverse}
use Rattle.std.specs.Ordering.{is_eq}
use Rattle.std.specs.Cmp.{tied_itself, Equal-is}
use Rattle.std.specs.List.{list_any, flat_map}
use Rattle.std.proofs.lemmas.Bool.{and_parts, and_from, cond-false, false≢true}
use Rattle.std.proofs.lemmas.Bool.Decides.{nat_tests}
use Rattle.std.proofs.lemmas.Map.Views.{list_any-from_Contains}
use Rattle.usfm_ref.specs.Books.{same_bytes, book_cmp}
use Rattle.usfm_ref.specs.Keys.{key_cmp}
use Rattle.usfm_ref.specs.Segments.{segment}
use Rattle.usfm_ref.specs.declared.segment.Segment.{Segment}
use Rattle.usfm_ref.proofs.Orders.{book_total, book_exact, key_total, key_exact, same_bytes-is, same_bytes-refl, same_segment-is}
use Rattle.usfm_ref.proofs.Members.{tested_rising}
use Rattle.usfm_ref.proofs.Sorted.{rises_filter}
use Rattle.op_core.specs.Ids.{Id, id_cmp}
use Rattle.op_core.specs.Ops.{Operation, own_text, in_segment, same_op}
use Rattle.op_core.specs.Equal.{same_op-is, same_op_equiv}
use Rattle.op_core.specs.Sets.{IsOpSet}
use Rattle.op_core.specs.Shown.{is_shown, shown}
use Rattle.op_core.specs.Export.{of_book, keys_in}
use Rattle.op_core.specs.Lists.{awaited, books_of, keys_of}
use Rattle.op_core.proofs.IdOrders.Rising.{id_total}
use Rattle.conflict_report.specs.Reports.{is_repeated, distinct_texts, conflict_line, text_lines, conflict_lines, conflict_at, conflicts_in, awaited_line, report}
use Rattle.conflict_report.specs.Laws.{ShowsOneText, EmptyReports}
use Rattle.conflict_report.proofs.Latest.{has_text, latest, any_latest, latest_is}

-- ---- lists that join to nothing

both_empty : (xs ys : List ℕ) → xs ++ ys ≡ [] → (xs ≡ []) × (ys ≡ [])
both_empty [] ys h = (refl, h)
both_empty (x ∷ xs) ys h = cc

module _ {X : Type 0} (f : X → List ℕ) where
  -- what is found among items that join to nothing is empty
  empty_at : (test : X → Bool) (q : X) → ((x : X) → test x ≡ true → q ≡ x) → (xs : List X) → list_any test xs ≡ true → flat_map f xs ≡ []
      → f q ≡ []
  empty_at test q is [] h e = absurd (false≢true h)
  empty_at test q is (x ∷ xs) h e = by (both_empty (f x) (flat_map f xs) e) (empty_at test q is xs) (test x) refl h
    where
      by : (f x ≡ []) × (flat_map f xs ≡ []) → (list_any test xs ≡ true → flat_map f xs ≡ [] → f q ≡ []) → (b : Bool) → test x ≡ b
          → (b || list_any test xs) ≡ true → f q ≡ []
      by p rest true t h = ap f (is x t) ∙ p.0
      by p rest false t h = rest h p.1

  all_empty : ((x : X) → f x ≡ []) → (xs : List X) → flat_map f xs ≡ []
  all_empty h [] = refl
  all_empty h (x ∷ xs) = λ i. h x i ++ all_empty h xs i

no_ids : (ids : List Id) → flat_map awaited_line ids ≡ [] → ids ≡ []
no_ids [] h = refl
no_ids (id ∷ ids) h = cc

-- ---- what is reported of a segment with an operation

module _ {X : Type 0} where
  implied : (p q : X → Bool) → ((x : X) → p x ≡ true → q x ≡ true) → (xs : List X) → list_any p xs ≡ true → list_any q xs ≡ true
  implied p q is [] h = h
  implied p q is (x ∷ xs) h = by (implied p q is xs) (p x) refl h
    where
      or_true : (b : Bool) → (b || true) ≡ true
      or_true true = refl
      or_true false = refl

      by : (list_any p xs ≡ true → list_any q xs ≡ true) → (b : Bool) → p x ≡ b → (b || list_any p xs) ≡ true
          → (q x || list_any q xs) ≡ true
      by rest true e h = ap (λ b. b || list_any q xs) (is x e)
      by rest false e h = ap (λ b. q x || b) (rest h) ∙ or_true (q x)

  mapped : {Y : Type 0} (p : Y → Bool) (f : X → Y) (xs : List X) → list_any p (map f xs) ≡ list_any (λ x. p (f x)) xs
  mapped p f [] = refl
  mapped p f (x ∷ xs) = ap (λ b. p (f x) || b) (mapped p f xs)

  kept : (p q : X → Bool) (xs : List X) → list_any p (filter q xs) ≡ list_any (λ x. q x && p x) xs
  kept p q [] = refl
  kept p q (x ∷ xs) = by (kept p q xs) (q x)
    where
      by : list_any p (filter q xs) ≡ list_any (λ x. q x && p x) xs → (b : Bool)
          → list_any p (cond b (x ∷ filter q xs) (filter q xs)) ≡ ((b && p x) || list_any (λ x. q x && p x) xs)
      by rest true = ap (λ b. p x || b) rest
      by rest false = rest

module _ (held : List Operation) (g : Segment) where
  -- a segment with an operation is among those that are reported of
  told_of : list_any (in_segment g) held ≡ true → flat_map (conflicts_in held) (books_of held) ≡ [] → conflict_at held g ≡ []
  told_of h e =
      let book : Operation → Bool = λ o. is_eq (book_cmp g.book o.segment.book) in
      let key : Operation → Bool = λ o. of_book g.book o && is_eq (key_cmp g.key o.segment.key) in
      let at = λ (o : Operation) (t : in_segment g o ≡ true). same_segment-is o.segment g t in
      let in_book : list_any (λ b. is_eq (book_cmp g.book b)) (books_of held) ≡ true =
      tested_rising book_cmp book_total book_exact g.book (map (λ (o : Operation). o.segment.book) held)
      ∙ mapped (λ b. is_eq (book_cmp g.book b)) (λ (o : Operation). o.segment.book) held
      ∙ implied (in_segment g) book (λ o t. subst (λ (s : Segment). is_eq (book_cmp g.book s.book) ≡ true) (sym (at o t))
      (ap is_eq (tied_itself book_total g.book))) held h in
      let in_keys : list_any (λ k. is_eq (key_cmp g.key k)) (keys_of held g.book) ≡ true =
      tested_rising key_cmp key_total key_exact g.key (keys_in held g.book)
      ∙ mapped (λ k. is_eq (key_cmp g.key k)) (λ (o : Operation). o.segment.key) (filter (of_book g.book) held)
      ∙ kept (λ o. is_eq (key_cmp g.key o.segment.key)) (of_book g.book) held
      ∙ implied (in_segment g) key (λ o t. subst (λ (s : Segment). (same_bytes s.book g.book && is_eq (key_cmp g.key s.key)) ≡ true)
      (sym (at o t)) (and_from _ _ (same_bytes-refl g.book) (ap is_eq (tied_itself key_total g.key)))) held h in
      let of_this = empty_at (conflicts_in held) (λ b. is_eq (book_cmp g.book b)) g.book (λ b t. book_exact g.book b ((Equal-is _).0 t))
      (books_of held) in_book e in
      empty_at (λ key. conflict_at held (segment g.book key)) (λ k. is_eq (key_cmp g.key k)) g.key
      (λ k t. key_exact g.key k ((Equal-is _).0 t)) (keys_of held g.book) in_keys of_this

  -- what a segment shows is of the segment
  shown_here : (o : Operation) → Contains (shown held g) o → list_any (in_segment g) held ≡ true
  shown_here o h =
      let there = sym (kept (same_op o) (is_shown held g) held) ∙ list_any-from_Contains same_op_equiv o (shown held g) h in
      implied (λ p. is_shown held g p && same_op o p) (in_segment g)
      (λ p t. (and_parts (in_segment g p) _ (and_parts (is_shown held g p) (same_op o p) t).0).0) held there

-- ---- one text

has_its_text : (ops : List Operation) (o : Operation) → Contains ops o → has_text (own_text o) ops ≡ true
has_its_text ops o h =
    implied (same_op o) (λ p. same_bytes (own_text p) (own_text o))
    (λ p t. subst (λ (q : Operation). same_bytes (own_text q) (own_text o) ≡ true) (same_op-is o p t) (same_bytes-refl (own_text o)))
    ops (list_any-from_Contains same_op_equiv o ops h)

only : (ops : List Operation) (t u : List ℕ) → length ops ≤ 1 → has_text t ops ≡ true → has_text u ops ≡ true → t ≡ u
only [] t u l a b = absurd (false≢true a)
only (o ∷ []) t u l a b =
    sym (same_bytes-is (own_text o) t (alone (same_bytes (own_text o) t) a))
    ∙ same_bytes-is (own_text o) u (alone (same_bytes (own_text o) u) b)
  where
    alone : (b : Bool) → (b || false) ≡ true → b ≡ true
    alone true h = refl
    alone false h = h
only (o ∷ p ∷ ops) t u l a b = absurd (omega arith)

first : (o : Operation) (ops : List Operation) → Contains (o ∷ ops) o
first o ops = (0, omega arith, refl)

in_rest : (o p : Operation) (ops : List Operation) → Contains ops p → Contains (o ∷ ops) p
in_rest o p ops h = (suc h.0, omega (arith, h.1), h.2)

agree_few : (ops : List Operation) → ((o p : Operation) → Contains ops o → Contains ops p → own_text o ≡ own_text p)
    → length (latest ops) ≤ 1
agree_few [] h = omega arith
agree_few (o ∷ []) h = omega arith
agree_few (o ∷ p ∷ ops) h =
    let rest = agree_few (p ∷ ops) (λ q r hq hr. h q r (in_rest o q (p ∷ ops) hq) (in_rest o r (p ∷ ops) hr)) in
    let same : same_bytes (own_text p) (own_text o) ≡ true = subst (λ (t : List ℕ). same_bytes t (own_text o) ≡ true)
    (h o p (first o (p ∷ ops)) (in_rest o p (p ∷ ops) (first p ops))) (same_bytes-refl (own_text o)) in
    subst (λ (b : Bool). length (cond (b || has_text (own_text o) ops) (latest (p ∷ ops)) (o ∷ latest (p ∷ ops))) ≤ 1) (sym same) rest

-- ---- fewer than two texts

few_told : (g : Segment) (texts : List Operation) → conflict_lines g texts ≡ [] → length texts ≤ 1
few_told g texts h = by (nat_le 2 (length texts)) refl h
  where
    by : (b : Bool) → nat_le 2 (length texts) ≡ b → cond b (conflict_line g (length texts) ++ flat_map text_lines texts) [] ≡ []
        → length texts ≤ 1
    by true e h = absurd (cc h)
    by false e h = grind (arith, nat_tests)

none_told : (g : Segment) (texts : List Operation) → length texts ≤ 1 → conflict_lines g texts ≡ []
none_told g texts l =
    let few : nat_le 2 (length texts) ≡ false = grind (arith, nat_tests) in
    cond-false _ _ _ few

module _ (held : List Operation) (set : IsOpSet held) where
  count_is : (g : Segment) → length (distinct_texts held g) ≡ length (latest (shown held g))
  count_is g =
      length-reverse (filter (λ o. not (is_repeated (shown held g) o)) (shown held g))
      ∙ ap length (sym (latest_is (shown held g) (rises_filter id_cmp id_total (λ (o : Operation). o.id) (is_shown held g) held
      set.rising)))

  told_empty : report held ≡ [] → ((g : Segment) → ShowsOneText held g) × (awaited held ≡ [])
  told_empty h =
      let p = both_empty (flat_map (conflicts_in held) (books_of held)) (flat_map awaited_line (awaited held)) h in
      let few = λ (g : Segment) (o : Operation) (there : Contains (shown held g) o). few_told g (distinct_texts held g)
      (told_of held g (shown_here held g o there) p.0) in
      let text = λ (g : Segment) (o : Operation) (there : Contains (shown held g) o). any_latest (own_text o) (shown held g)
      ∙ has_its_text (shown held g) o there in (
        λ g o q ho hq. only (latest (shown held g)) (own_text o) (own_text q) (subst (λ (n : ℕ). n ≤ 1) (count_is g) (few g o ho))
            (text g o ho) (text g q hq),
        no_ids (awaited held) p.1,
      )

  empty_told : ((g : Segment) → ShowsOneText held g) × (awaited held ≡ []) → report held ≡ []
  empty_told h =
      let none = λ (g : Segment). none_told g (distinct_texts held g)
      (subst (λ (n : ℕ). n ≤ 1) (sym (count_is g)) (agree_few (shown held g) (h.0 g))) in
      let books = all_empty (conflicts_in held) (λ book. all_empty (λ key. conflict_at held (segment book key))
      (λ key. none (segment book key)) (keys_of held book)) (books_of held) in
      λ i. books i ++ flat_map awaited_line (h.1 i)

-- a report is empty exactly where no segment has two texts and nothing is awaited
pub empty_reports : EmptyReports
empty_reports held set = (told_empty held set, empty_told held set)
