-- Books and segments in maps and sets.
use Rattle.std.proofs.Common.{◌≡◌, ℕ, Bool, true, false, cond, ◌||◌, List, Some, None, refl, sym, ap, subst, rules, ◌∙◌, Vec, Global}
use Rattle.std.specs.BTreeMap.{get}
use Rattle.std.specs.BTreeSet.{BTreeSet, contains}
use Rattle.std.specs.Cmp.{both_ways, tied_itself, Equal-is}
use Rattle.std.specs.Option.{option_map, option_or}
use Rattle.std.specs.Ordering.{is_eq}
use Rattle.usfm_ref.specs.Books.{book_cmp, same_bytes}
use Rattle.usfm_ref.specs.Segments.{segment_cmp}
use Rattle.usfm_ref.specs.contracts.book.BookOrd.TheImpl as books
use Rattle.usfm_ref.specs.contracts.segment.SegmentOrd.TheImpl as segments
use Rattle.usfm_ref.specs.declared.segment.Segment.{Segment}
use Rattle.usfm_ref.proofs.Orders.{book_total, book_exact, same_bytes-is, same_bytes-refl, same_segment-cmp}
use Rattle.versification.specs.Lines.{last_of, without}
use Rattle.versification.specs.Loops.Tables.{Books, under, has, TakesBooks, TakesOut}

-- the order of a map's books is that of books
pub books_order : books.ghosts.cmp ≡ book_cmp
books_order i a b = same a b i
  where
    same : (a b : List ℕ) → books.ghosts.cmp a b ≡ book_cmp a b
    same a b = search rules

-- the order of a set's segments is that of segments
pub segments_order : segments.ghosts.cmp ≡ segment_cmp
segments_order i a b = same a b i
  where
    same : (a b : Segment) → segments.ghosts.cmp a b ≡ segment_cmp a b
    same a b = search rules

-- books are one where their order does not tell them apart
pub same_book : (a b : List ℕ) → same_bytes a b ≡ is_eq (book_cmp a b)
same_book a b = both_ways (same_bytes a b) (is_eq (book_cmp a b))
    (λ h. subst (λ (c : List ℕ). is_eq (book_cmp a c) ≡ true) (same_bytes-is a b h) (ap is_eq (tied_itself book_total a)))
    (λ h. subst (λ (c : List ℕ). same_bytes a c ≡ true) (book_exact a b ((Equal-is _).0 h)) (same_bytes-refl a))

-- a book's verses are put in the place of those that are there
pub puts_verses : (before after : Books) (book : List ℕ) (verses : Vec ℕ Global)
    → ((q : List ℕ) → get book_cmp after q ≡ cond (is_eq (book_cmp book q)) (Some verses) (get book_cmp before q))
    → TakesBooks before (Some (last_of book verses.items)) after
puts_verses before after book verses updates q =
    ap (option_map (λ v. v.items)) (updates q ∙ ap (λ b. cond b (Some verses) (get book_cmp before q)) (sym (same_book book q)))
    ∙ by (same_bytes book q)
  where
    by : (b : Bool) → option_map (λ v. v.items) (cond b (Some verses) (get book_cmp before q))
        ≡ option_or (cond b (Some verses.items) None) (under before q)
    by true = refl
    by false = refl

-- a verse is added to those that are left out
pub adds_verse : (before after : BTreeSet Segment) (s : Segment)
    → ((q : Segment) → contains segment_cmp after q ≡ cond (is_eq (segment_cmp s q)) true (contains segment_cmp before q))
    → TakesOut before (Some (without s)) after
adds_verse before after s updates q =
    updates q ∙ either (is_eq (segment_cmp s q))
    ∙ ap (λ b. b || has before q) (sym (same_segment-cmp s q))
  where
    either : (b : Bool) → cond b true (has before q) ≡ (b || has before q)
    either true = refl
    either false = refl
