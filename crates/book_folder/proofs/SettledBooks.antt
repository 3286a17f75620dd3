-- A base is settled book by book.
use Rattle.std.proofs.Common.{◌≡◌, ℕ, Bool, true, false, cond, not, List, filter, Option, Some, None, Result, Ok, Err, refl, sym, ap, ◌∙◌}
use Rattle.std.proofs.lemmas.Bool.{false_from_ne_true, false≢true}
use Rattle.usfm_ref.specs.Books.{same_bytes}
use Rattle.usfm_ref.specs.declared.segment.Segment.{Segment}
use Rattle.usfm_ref.proofs.Orders.{same_bytes-is}
use Rattle.verse_cut.proofs.MarkLaws.{both_second}
use Rattle.op_core.specs.Export.{of_book}
use Rattle.op_core.specs.Ids.{Id}
use Rattle.op_core.specs.OneBook.{ops_of_book}
use Rattle.op_core.specs.Ops.{Operation}
use Rattle.op_core.specs.Sets.{clash, get, join, meet, met, rises}
use Rattle.op_core.proofs.FilteredLists.{filter_both}
use Rattle.op_core.proofs.Sets.Clashes.{clash_comm}
use Rattle.op_core.proofs.Sets.Filters.{filter_kept, filter_passes, filter_within, rises-filter}
use Rattle.op_core.proofs.Sets.Union.{AgreeAtAll, agree_from_no_clash, get-join, join_comm, rises-join, same_gets}
use Rattle.bundle_codec.specs.declared.fault.WholeFault.{WholeFault}
use Rattle.bundle_codec.specs.Joining.{of_both, union_or_clash, whole_at}
use Rattle.bundle_codec.specs.Spelling.{bundle}
use Rattle.book_folder.specs.Begun.{joined_at, joined_or, ops_not_of, ops_of}
use Rattle.book_folder.specs.Files.{is_one_of}
use Rattle.book_folder.specs.OlderBases.{or_else}
use Rattle.book_folder.specs.OwnBooks.{OlderBasesMoveByBook, SettledBookByBook}
use Rattle.book_folder.specs.declared.refusal.Place.{Place}
use Rattle.book_folder.specs.declared.refusal.Place.TheVariants as places
use Rattle.book_folder.proofs.CutShort.AsReadBase.{same_somes}
use Rattle.book_folder.proofs.Schedules.BasesReach.{joined_is}
use Rattle.book_folder.proofs.Schedules.ReadSets.{IsReadable, both_set, read_again, short_set, some_set}

-- ---- sets that do not clash, of which one has nothing of some segments

module _ (x y : List Operation) (hx : rises x ≡ true) (hy : rises y ≡ true) (none : clash x y ≡ None) (test : Segment → Bool) where
  abbrev passes : Operation → Bool
  passes o = test o.segment

  alike : AgreeAtAll x y
  alike = agree_from_no_clash x y none

  -- where the second has nothing of them, the union has of them what the first has
  pub only_first : ((q : Id) (o : Operation) → get y q ≡ Some o → passes o ≡ false) → filter passes (join x y) ≡ filter passes x
  only_first other =
      same_gets (filter passes (join x y)) (filter passes x) (rises-filter passes (join x y) (rises-join x y hx))
      (rises-filter passes x hx) (λ q. same_somes _ _ (there q) (back q))
    where
      not_both : (q : Id) (a b : Operation) → get x q ≡ Some a → get y q ≡ Some b → passes a ≡ true → ⊥
      not_both q a b gx gy p =
          let same : a.segment ≡ b.segment = ap (λ (o : Operation). o.segment) (alike q a b gx gy).bares in
          false≢true (sym (other q b gy) ∙ ap test (sym same) ∙ p)

      there : (q : Id) (o : Operation) → get (filter passes (join x y)) q ≡ Some o → get (filter passes x) q ≡ Some o
      there q o g =
          by (get x q) refl (get y q) refl
          (sym (get-join x y q hx hy) ∙ filter_within passes (join x y) (rises-join x y hx) q o g)
        where
          of : passes o ≡ true
          of = filter_passes passes (join x y) q o g

          by : (r : Option Operation) → get x q ≡ r → (t : Option Operation) → get y q ≡ t → met r t ≡ Some o
              → get (filter passes x) q ≡ Some o
          by None e None f m = cc m
          by None e (Some b) f m = let is : b ≡ o = cc m in absurd (false≢true (sym (other q b f) ∙ ap passes is ∙ of))
          by (Some a) e None f m = filter_kept passes x q o (e ∙ m) of
          by (Some a) e (Some b) f m =
              let is : meet a b ≡ o = cc m in absurd (not_both q a b e f (ap passes is ∙ of))

      back : (q : Id) (o : Operation) → get (filter passes x) q ≡ Some o → get (filter passes (join x y)) q ≡ Some o
      back q o g = filter_kept passes (join x y) q o (get-join x y q hx hy ∙ by (get y q) refl) of
        where
          of : passes o ≡ true
          of = filter_passes passes x q o g

          within : get x q ≡ Some o
          within = filter_within passes x hx q o g

          by : (t : Option Operation) → get y q ≡ t → met (get x q) (get y q) ≡ Some o
          by None f = (λ i. met (within i) (f i))
          by (Some b) f = absurd (not_both q o b within f of)

abbrev of_the : List ℕ → Segment → Bool
of_the book g = same_bytes g.book book

-- where the first has nothing of the book, it has what the second has
only_second : (x y : List Operation) → rises x ≡ true → rises y ≡ true → clash x y ≡ None → (book : List ℕ)
    → ((q : Id) (o : Operation) → get x q ≡ Some o → of_book book o ≡ false) → ops_of_book (join x y) book ≡ ops_of_book y book
only_second x y hx hy none book other =
    ap (λ (ops : List Operation). ops_of_book ops book) (join_comm x y hx hy (agree_from_no_clash x y none))
    ∙ only_first y x hy hx (sym (clash_comm x y hx hy) ∙ none) (of_the book) other

-- bundles that are joined do not clash
pub joined_apart : (place : Place) (x y : List Operation) (bytes : List ℕ) → IsReadable x → IsReadable y
    → joined_at place x y ≡ Ok bytes → clash x y ≡ None
joined_apart place x y bytes h g e = by (whole_at (bundle x)) refl (whole_at (bundle y)) refl e
  where
    apart : (a b : List Operation) (c : Option Id) → joined_or place (union_or_clash a b c) ≡ Ok bytes → c ≡ None
    apart a b None e = refl
    apart a b (Some id) e = cc e

    by : (r : Result (List Operation) WholeFault) → whole_at (bundle x) ≡ r → (q : Result (List Operation) WholeFault)
        → whole_at (bundle y) ≡ q → joined_or place (of_both r q) ≡ Ok bytes → clash x y ≡ None
    by (Err fault) f q k e = cc e
    by (Ok a) f (Err fault) k e = cc e
    by (Ok a) f (Ok b) k e =
        (λ i. clash (sym (read_again x a h f).0 i) (sym (read_again y b g k).0 i)) ∙ apart a b (clash a b) e

-- ---- a settled base

module _ (unplaced : List (List ℕ)) (base next : List Operation) (book : List ℕ) where
  abbrev is_left : Operation → Bool
  is_left o = is_one_of unplaced o.segment.book

  -- an operation of the book is left where the book is
  left_as : (o : Operation) → of_book book o ≡ true → is_left o ≡ is_one_of unplaced book
  left_as o h = ap (is_one_of unplaced) (same_bytes-is o.segment.book book h)

  pub by_book : rises base ≡ true → rises next ≡ true → clash (ops_of unplaced base) (ops_not_of unplaced next) ≡ None
      → ops_of_book (join (ops_of unplaced base) (ops_not_of unplaced next)) book
      ≡ cond (is_one_of unplaced book) (ops_of_book base book) (ops_of_book next book)
  by_book hb hn none = by (is_one_of unplaced book) refl
    where
      x : List Operation
      x = ops_of unplaced base

      y : List Operation
      y = ops_not_of unplaced next

      hx : rises x ≡ true
      hx = rises-filter is_left base hb

      hy : rises y ≡ true
      hy = rises-filter (λ o. not (is_left o)) next hn

      by : (b : Bool) → is_one_of unplaced book ≡ b → ops_of_book (join x y) book ≡ cond b (ops_of_book base book) (ops_of_book next book)
      by true e =
          only_first x y hx hy none (of_the book) (λ q o g. false_from_ne_true _ (λ h.
          false≢true (ap not (sym (left_as o h ∙ e)) ∙ filter_passes (λ o. not (is_left o)) next q o g)))
          ∙ filter_both (of_book book) is_left (of_book book) (λ o. both_second (is_left o) (of_book book o) (λ h. left_as o h ∙ e)) base
      by false e =
          only_second x y hx hy none book (λ q o g. false_from_ne_true _ (λ h.
          false≢true (sym (left_as o h ∙ e) ∙ filter_passes is_left base q o g)))
          ∙ filter_both (of_book book) (λ o. not (is_left o)) (of_book book)
          (λ o. both_second (not (is_left o)) (of_book book o) (λ h. ap not (left_as o h ∙ e))) next

pub settled_book_by_book : SettledBookByBook
settled_book_by_book unplaced base next bytes ops book bs ns short also made read =
    let x = ops_of unplaced base in
    let y = ops_not_of unplaced next in
    let hx = some_set (is_left unplaced base next book) base (short_set base bs short) in
    let hy = some_set (λ o. not (is_left unplaced base next book o)) next (short_set next ns also) in
    let again = read_again (join x y) ops (both_set x y hx hy) (ap whole_at (sym (joined_is places.Next x y bytes hx hy made)) ∙ read) in
    ap (λ (held : List Operation). ops_of_book held book) again.0
    ∙ by_book unplaced base next book bs.rising ns.rising (joined_apart places.Next x y bytes hx hy made)

pub older_bases_move_by_book : OlderBasesMoveByBook
older_bases_move_by_book books newer older bytes ops book ns os short also made read =
    settled_book_by_book books newer older bytes ops book ns os short also made
    (ap (λ r. whole_at (or_else (bundle (ops_of books newer)) r)) (sym made) ∙ read)
