-- The operations of one book are all that the book is made of.
use Rattle.std.proofs.Common.{◌≡◌, ℕ, Bool, true, false, not, ◌&&◌, List, [], ◌∷◌, Some, filter, map, refl, ap, ◌∙◌}
use Rattle.std.specs.List.{list_any, flat_map}
use Rattle.std.proofs.lemmas.Bool.{and_parts}
use Rattle.usfm_ref.specs.Books.{same_bytes}
use Rattle.usfm_ref.specs.Keys.{key_cmp, head_of}
use Rattle.usfm_ref.specs.Rising.{rising}
use Rattle.usfm_ref.specs.Segments.{segment}
use Rattle.usfm_ref.specs.declared.segment.Segment.{Segment}
use Rattle.usfm_ref.proofs.Orders.{same_bytes-is, same_bytes-refl, same_segment-is}
use Rattle.verse_cut.proofs.MarkLaws.{both_second}
use Rattle.op_core.specs.Ids.{Id}
use Rattle.op_core.specs.Ops.{Operation, IsOperation, in_segment, is_full, names}
use Rattle.op_core.specs.Sets.{IsOpSet, get}
use Rattle.op_core.specs.Shown.{is_replaced, is_shown, shown}
use Rattle.op_core.specs.Thinned.{is_legal, is_past}
use Rattle.op_core.specs.Export.{of_book, has_book, exported_keys, export}
use Rattle.op_core.specs.OneBook.{ops_of_book}
use Rattle.op_core.proofs.Exports.ByShown.{picked_same}
use Rattle.op_core.proofs.FilteredLists.{filter_both, any_filter, kept_each}
use Rattle.op_core.proofs.Sets.Filters.{rises-filter, filter_within, filter_passes}
use Rattle.op_core.proofs.Sets.Legal.{legal_at, legal_from}

module _ (held : List Operation) (book : List ℕ) where
  -- a test that operations of the book alone pass finds among these what it finds among all
  any_same : (p : Operation → Bool) → ((o : Operation) → p o ≡ true → of_book book o ≡ true)
      → list_any p (ops_of_book held book) ≡ list_any p held
  any_same p of = any_filter p (of_book book) held ∙ (λ i. list_any (λ o. both_second (of_book book o) (p o) (of o) i) held)

  -- so it leaves the same of these and of all
  filter_same : (p : Operation → Bool) → ((o : Operation) → p o ≡ true → of_book book o ≡ true)
      → filter p (ops_of_book held book) ≡ filter p held
  filter_same p of = filter_both p (of_book book) p (λ o. both_second (of_book book o) (p o) (of o)) held

  -- ---- what a segment of the book shows

  -- an operation of a segment of the book is of the book
  is_of_book : (g : Segment) → g.book ≡ book → (o : Operation) → in_segment g o ≡ true → of_book book o ≡ true
  is_of_book g of o h =
      ap (λ (s : Segment). same_bytes s.book book) (same_segment-is o.segment g h)
      ∙ ap (λ (code : List ℕ). same_bytes code book) of ∙ same_bytes-refl book

  replaced_same : (g : Segment) → g.book ≡ book → (id : Id) → is_replaced (ops_of_book held book) g id ≡ is_replaced held g id
  replaced_same g of id =
      any_same (λ p. in_segment g p && names p id) (λ p h. is_of_book g of p (and_parts (in_segment g p) (names p id) h).0)

  -- a segment of the book shows the same where the operations of the book are all
  pub shown_same : (g : Segment) → g.book ≡ book → shown (ops_of_book held book) g ≡ shown held g
  shown_same g of =
      (λ i. filter (λ o. in_segment g o && not (replaced_same g of o.id i)) (ops_of_book held book))
      ∙ filter_same (is_shown held g) (λ o h. is_of_book g of o (and_parts (in_segment g o) (not (is_replaced held g o.id)) h).0)

  -- ---- the export

  keys_same : exported_keys (ops_of_book held book) book ≡ exported_keys held book
  keys_same = ap (λ (ops : List Operation). rising key_cmp (flat_map (λ key. head_of key ∷ key ∷ []) (map (λ o. o.segment.key) ops)))
      (filter_same (of_book book) (λ o h. h))

  -- the book's export is the same where the operations of the book are all
  pub export_same : export (ops_of_book held book) book ≡ export held book
  export_same =
      (λ i. flat_map (λ key. picked_same (ops_of_book held book) held book (λ k. shown_same (segment book k) refl) key i) (keys_same i))

  -- and the book has an operation where it has one among all
  pub has_book_same : has_book (ops_of_book held book) book ≡ has_book held book
  has_book_same = any_same (of_book book) (λ o h. h)

  -- ---- the set of them

  -- the operations of the book are a set
  pub ops_of_book_set : IsOpSet held → IsOpSet (ops_of_book held book)
  ops_of_book_set set = record {
    rising = rises-filter (of_book book) held set.rising;
    each = kept_each IsOperation (of_book book) held set.each;
  }

  -- the set of them is legal, since what names a thinned operation is of its book
  pub ops_of_book_legal : IsOpSet held → is_legal held ≡ true → is_legal (ops_of_book held book) ≡ true
  ops_of_book_legal set legal = legal_from (ops_of_book held book) (rises-filter (of_book book) held set.rising) one
    where
      one : (o : Operation) → get (ops_of_book held book) o.id ≡ Some o → is_full o ≡ false → is_past (ops_of_book held book) o ≡ true
      one o g n =
          let of = same_bytes-is o.segment.book book (filter_passes (of_book book) held o.id o g) in
          replaced_same o.segment of o.id
          ∙ legal_at held o.id o legal (filter_within (of_book book) held set.rising o.id o g) n
