-- What is asked of a set that stands for a full one is answered alike.
use Rattle.std.proofs.Common.{◌≡◌, ℕ, true, cond, List, [], ◌∷◌, Some, None, option_map, filter, map, refl, sym, ap, ◌∙◌}
use Rattle.std.specs.List.{flat_map}
use Rattle.std.proofs.lemmas.Bool.{and_from}
use Rattle.op_core.specs.Ops.{Operation, is_full}
use Rattle.op_core.specs.Sets.{get, put, clash, differs}
use Rattle.op_core.specs.Lists.{ids_of}
use Rattle.op_core.specs.Shown.{is_shown, shown, last, text_if_any, pick, picked_text}
use Rattle.op_core.specs.Thinned.{skeleton, StandsFor}
use Rattle.op_core.specs.ThinLaws.{AnswersSame, SameButTexts}
use Rattle.op_core.proofs.ThinnedSets.Bare.{ids_same, number_same, awaited_same, is_shown_same, told_same}
use Rattle.op_core.proofs.Exports.ByShown.{pick_same}
use Rattle.op_core.proofs.ThinnedSets.StandIns.{shows_same, full_stands, join_stands}
use Rattle.usfm_ref.specs.declared.segment.Segment.{Segment}
use Rattle.usfm_ref.specs.Books.{book_cmp}
use Rattle.usfm_ref.specs.Keys.{key_cmp, head_of}
use Rattle.usfm_ref.specs.Segments.{segment}
use Rattle.usfm_ref.specs.Rising.{rising}
use Rattle.op_core.specs.Export.{of_book, keys_in, export}

books_bare : (ops : List Operation) → map (λ o. o.segment.book) ops ≡ map (λ o. o.segment.book) (skeleton ops)
books_bare [] = refl
books_bare (o ∷ ops) = ap (λ xs. o.segment.book ∷ xs) (books_bare ops)

-- sets with equal skeletons answer alike whatever does not hang on texts
pub skeleton_answers : (s u : List Operation) → skeleton s ≡ skeleton u → SameButTexts s u
skeleton_answers s u e = record {
  ids = ids_same s u e;
  shown_ids = λ seg. told_same s u e (is_shown s seg) (λ o. o.id) ∙ (λ i. ids_of (filter (λ o. is_shown_same s u e seg o i) u));
  number = number_same s u e;
  awaited = awaited_same s u e;
  keys = λ book. λ i. rising key_cmp (told_same s u e (of_book book) (λ o. o.segment.key) i);
  books = λ i. rising book_cmp (books_same i);
}
  where
    books_same : map (λ o. o.segment.book) s ≡ map (λ o. o.segment.book) u
    books_same = books_bare s ∙ ap (map (λ (o : Operation). o.segment.book)) e ∙ sym (books_bare u)

-- sets that show the same pick the same
pub picks_alike : (s u : List Operation) → ((seg : Segment) → shown s seg ≡ shown u seg) → (seg : Segment) → pick s seg ≡ pick u seg
picks_alike s u shows seg = pick_same s u seg.book (λ key. shows (segment seg.book key)) seg.key

-- of sets with equal skeletons that show the same
module _ (s u : List Operation) (e : skeleton s ≡ skeleton u) (shows : (seg : Segment) → shown s seg ≡ shown u seg) where
  keys_alike : (book : List ℕ) → keys_in s book ≡ keys_in u book
  keys_alike book = told_same s u e (of_book book) (λ o. o.segment.key)

  pub exports_alike : (book : List ℕ) → export s book ≡ export u book
  exports_alike book i =
      flat_map (λ key. picked_text (picks_alike s u shows (segment book key) i))
      (rising key_cmp (flat_map (λ key. head_of key ∷ key ∷ []) (keys_alike book i)))

  -- sets that are alike answer alike
  pub answers_alike : AnswersSame s u
  answers_alike =
      let bares = skeleton_answers s u e in
      record {
        texts = λ seg. ap (λ ops. text_if_any (last ops)) (shows seg);
        shown_ids = bares.shown_ids;
        ids = bares.ids;
        number = bares.number;
        awaited = bares.awaited;
        keys = bares.keys;
        books = bares.books;
        export = exports_alike;
      }

module _ (s u : List Operation) (h : StandsFor s u) where
  -- sets that are alike pick the same
  pub picks_same : (seg : Segment) → pick s seg ≡ pick u seg
  picks_same = picks_alike s u (λ seg. shows_same s u seg h)

  -- sets that are alike answer every question in the same way
  pub answers_same : AnswersSame s u
  answers_same = answers_alike s u h.skeletons (λ seg. shows_same s u seg h)

  -- a new full operation
  pub put_stands : (o : Operation) → is_full o ≡ true → get u o.id ≡ None → StandsFor (put o s) (put o u)
  put_stands o f new =
      let alone = full_stands (o ∷ []) refl (and_from (is_full o) true f refl) in
      let free : clash u (o ∷ []) ≡ None = ap (λ r. option_map (λ (o : Operation). o.id) (cond (differs r o) (Some o) None)) new in
      (join_stands s u (o ∷ []) (o ∷ []) h alone free).1
