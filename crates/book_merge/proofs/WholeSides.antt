-- What a merge gives where the sides are equal, or one of them is BASE.
use Rattle.std.proofs.Common.{◌≡◌, ℕ, Bool, true, false, not, cond, ◌&&◌, ◌||◌, List, [], ◌∷◌, ◌++◌, map, Some, Result, Ok, Err}
use Rattle.std.proofs.Common.{refl, sym, ap, subst, ◌∙◌, inl, inr}
use Rattle.std.specs.Prelude.{◌⊎◌}
use Rattle.std.specs.List.{AllByRecursion, flat_map}
use Rattle.std.proofs.lemmas.Bool.{cond-true, or_left, or_right}
use Rattle.usfm_ref.specs.Books.{same_bytes}
use Rattle.usfm_ref.specs.Keys.{KeyParts, key_cmp}
use Rattle.usfm_ref.specs.Segments.{segment}
use Rattle.usfm_ref.proofs.Orders.{key_total, same_bytes-is, same_bytes-refl}
use Rattle.usfm_ref.proofs.Sorted.{each_found}
use Rattle.verse_cut.specs.Pieces.{PieceParts, pieces_joined, pieces_of}
use Rattle.verse_cut.specs.Reading.{book_in}
use Rattle.verse_cut.specs.declared.fault.BookFault.{BookFault}
use Rattle.verse_cut.proofs.CutLaws.{one_cut, pieces_rise}
use Rattle.op_core.specs.Ops.{Operation, own_text}
use Rattle.op_core.specs.Shown.{last, text_if_any, text_of, shown}
use Rattle.op_core.specs.Export.{export}
use Rattle.replica_state.specs.States.{State}
use Rattle.replica_state.specs.Imports.{piece_own_text, piece_of, piece_at}
use Rattle.book_merge.specs.Wordings.{wording_of, same_wording}
use Rattle.book_merge.specs.Sides.{theirs_text, ours_text, theirs_piece, ours_piece, theirs_read, ours_read}
use Rattle.book_merge.specs.Merges.{MergeParts, book_or_bad, one_book, merged_book, merge_of_book, united, merged}
use Rattle.book_merge.specs.Laws.{IsUnionOf, IsMergeOf, ShowsBoth, AreApart, ApartHaveChanged, EqualSidesGiveThem, OursAloneIsGiven}
use Rattle.book_merge.specs.Laws.{TheirsAloneIsGiven}
use Rattle.book_merge.specs.Laws as laws
use Rattle.book_merge.specs.declared.fault.MergeFault.TheVariants.{OtherBook}
use Rattle.book_merge.specs.declared.fault.MergedFile.{MergedFile}
use Rattle.book_merge.specs.declared.fault.MergedFile.TheVariants.{Base, Ours, Theirs}
use Rattle.book_merge.proofs.Taken.{after_is}
use Rattle.book_merge.proofs.Unions.{unions_show_both, unchanged_stays}
use Rattle.book_merge.proofs.WholeBooks.{export_is_file}

-- ---- the book

named_is : (file : MergedFile) (r : Result (List ℕ) BookFault) (book : List ℕ) → book_or_bad file r ≡ Ok book → r ≡ Ok book
named_is file (Ok b) book e = cc e
named_is file (Err fault) book e = cc e

-- all three files begin with the book
pub record OneBook (base ours theirs book : List ℕ) : Type 0 where
  pub of_base : book_in base ≡ Ok book
  pub of_ours : book_in ours ≡ Ok book
  pub of_theirs : book_in theirs ≡ Ok book

one_is : (was own other book : List ℕ) → one_book was own other ≡ Ok book → (own ≡ was) × (other ≡ was) × (was ≡ book)
one_is was own other book e = by (same_bytes own was) refl (same_bytes other was) refl e
  where
    by : (a : Bool) → same_bytes own was ≡ a → (b : Bool) → same_bytes other was ≡ b
        → cond (not a) (Err (OtherBook Ours)) (cond (not b) (Err (OtherBook Theirs)) (Ok was)) ≡ Ok book
        → (own ≡ was) × (other ≡ was) × (was ≡ book)
    by true f true g h = (same_bytes-is own was f, same_bytes-is other was g, cc h)
    by true f false g h = cc h
    by false f b g h = cc h

books : (base ours theirs book : List ℕ) → merged_book base ours theirs ≡ Ok book → OneBook base ours theirs book
books base ours theirs book e =
    let first = after_is (book_or_bad Base (book_in base)) _ book e in
    let second = after_is (book_or_bad Ours (book_in ours)) _ book first.2 in
    let third = after_is (book_or_bad Theirs (book_in theirs)) _ book second.2 in
    let one = one_is first.0 second.0 third.0 book third.2 in
    record {
      of_base = named_is Base (book_in base) first.0 first.1 ∙ ap Ok one.2;
      of_ours = named_is Ours (book_in ours) second.0 second.1 ∙ ap Ok (one.0 ∙ one.2);
      of_theirs = named_is Theirs (book_in theirs) third.0 third.1 ∙ ap Ok (one.1 ∙ one.2);
    }

-- a merge is a union of the sides as they are read
pub record IsRead (base ours theirs : List ℕ) (m : MergeParts) : Type 0 where
  pub book : OneBook base ours theirs m.book
  pub is : united base (ours_read base ours theirs) (theirs_read base ours theirs) ≡ Ok m.replica

is_read : (base ours theirs : List ℕ) (m : MergeParts) → merged base ours theirs ≡ Ok m → IsRead base ours theirs m
is_read base ours theirs m e =
    let first = after_is (merged_book base ours theirs) (merge_of_book base ours theirs) m e in
    let second = after_is (united base (ours_read base ours theirs) (theirs_read base ours theirs)) _ m first.2 in
    let is : record { book = first.0; replica = second.0 } ≡ m = cc second.2 in
    record {
      book = subst (OneBook base ours theirs) (ap (λ (x : MergeParts). x.book) is) (books base ours theirs first.0 first.1);
      is = second.1 ∙ ap (λ (x : MergeParts). Ok x.replica) is;
    }

-- ---- sides that are read as they are

module _ (f : PieceParts → List ℕ) where
  each_as_it_is : (ps : List PieceParts) → AllByRecursion (λ p. f p ≡ p.text) ps → flat_map f ps ≡ pieces_joined ps
  each_as_it_is [] all = refl
  each_as_it_is (p ∷ ps) all = λ i. all.0 i ++ each_as_it_is ps all.1 i

  as_it_is : (file : List ℕ) → AllByRecursion (λ p. f p ≡ p.text) (pieces_of file) → flat_map f (pieces_of file) ≡ file
  as_it_is file all = each_as_it_is (pieces_of file) all ∙ ((one_cut (pieces_of file) file).1 refl).join

each_of : (P Q : PieceParts → Type 0) → ((p : PieceParts) → P p → Q p) → (ps : List PieceParts) → AllByRecursion P ps
    → AllByRecursion Q ps
each_of P Q h [] all = tt
each_of P Q h (p ∷ ps) all = (h p all.0, each_of P Q h ps all.1)

each_any : (Q : PieceParts → Type 0) → ((p : PieceParts) → Q p) → (ps : List PieceParts) → AllByRecursion Q ps
each_any Q h [] = tt
each_any Q h (p ∷ ps) = (h p, each_any Q h ps)

-- a file has at the key of each of its pieces the piece's text
own_texts : (file : List ℕ) → AllByRecursion (λ p. piece_at (pieces_of file) p.key ≡ p.text) (pieces_of file)
own_texts file =
    each_of (λ p. piece_of (pieces_of file) p.key ≡ Some p) (λ p. piece_at (pieces_of file) p.key ≡ p.text)
    (λ p e. ap piece_own_text e) (pieces_of file)
    (each_found key_cmp key_total (λ (p : PieceParts). p.key) (pieces_of file) (pieces_rise file))

-- THEIRS is read as it is where it is BASE, where OURS is, and where OURS has the text
theirs_as_base : (was mine text : List ℕ) → was ≡ text → theirs_text was mine text ≡ text
theirs_as_base was mine text e =
    cond-true _ _ _ (or_left (same_bytes text was) (same_bytes mine was) (ap (same_bytes text) e ∙ same_bytes-refl text))

ours_as_base : (was text : List ℕ) → theirs_text was was text ≡ text
ours_as_base was text = cond-true _ _ _ (or_right (same_bytes text was) (same_bytes was was) (same_bytes-refl was))

theirs_as_ours : (was mine text : List ℕ) → mine ≡ text → theirs_text was mine text ≡ text
theirs_as_ours was mine text e =
    by (same_bytes text was || same_bytes mine was) (same_wording text mine) (ap (same_wording text) e ∙ same_bytes-refl (wording_of text))
  where
    by : (a b : Bool) → b ≡ true → cond a text (cond b mine (cond (same_wording text was) was text)) ≡ text
    by true b h = refl
    by false true h = e
    by false false h = cc h

-- OURS is read as it is where it is BASE, and where THEIRS is BASE or has the text of OURS
mine_as_base : (was mine text : List ℕ) → was ≡ mine → ours_text was mine text ≡ mine
mine_as_base was mine text e = by (same_wording mine was && not (same_wording text was))
  where
    by : (a : Bool) → cond a was mine ≡ mine
    by true = e
    by false = refl

gives_way_to_none : (a : Bool) (was mine : List ℕ) → cond (a && not true) was mine ≡ mine
gives_way_to_none true was mine = refl
gives_way_to_none false was mine = refl

mine_alone : (was mine : List ℕ) → ours_text was mine was ≡ mine
mine_alone was mine =
    ap (λ b. cond (same_wording mine was && not b) was mine) (same_bytes-refl (wording_of was))
    ∙ gives_way_to_none (same_wording mine was) was mine

mine_twice : (was mine text : List ℕ) → text ≡ mine → ours_text was mine text ≡ mine
mine_twice was mine text e = ap (λ (t : List ℕ). ours_text was mine t) e ∙ by (same_wording mine was)
  where
    by : (a : Bool) → cond (a && not a) was mine ≡ mine
    by true = refl
    by false = refl

-- ---- whole books

-- the text of operations whose texts are known
last_is : (ops : List Operation) (text : List ℕ) → map (λ o. own_text o) ops ≡ text ∷ [] → text_if_any (last ops) ≡ text
last_is [] text e = cc e
last_is (o ∷ []) text e = cc e
last_is (o ∷ p ∷ ops) text e = cc e

-- a union in which each key has the text of a file is the file
module _ (base ours theirs book : List ℕ) (s : State) (u : IsUnionOf base ours theirs book s) where
  shows : (q : KeyParts) → ShowsBoth (laws.text_at base q) (laws.text_at ours q) (laws.text_at theirs q) (laws.shown_texts s book q)
  shows q = unions_show_both base ours theirs book s q u

  -- where OURS is BASE, it has THEIRS
  gives_theirs : ours ≡ base → export s.held book ≡ theirs
  gives_theirs e = export_is_file s.held book theirs u.theirs_book texts
    where
      texts : (q : KeyParts) → text_of s.held (segment book q) ≡ piece_at (pieces_of theirs) q
      texts q = by (same_bytes (laws.text_at theirs q) (laws.text_at base q)) refl
        where
          same : laws.text_at ours q ≡ laws.text_at base q
          same = ap (λ (file : List ℕ). laws.text_at file q) e

          by : (b : Bool) → same_bytes (laws.text_at theirs q) (laws.text_at base q) ≡ b
              → text_of s.held (segment book q) ≡ laws.text_at theirs q
          by true f =
              let is = same_bytes-is (laws.text_at theirs q) (laws.text_at base q) f in
              unchanged_stays base ours theirs book s q u same is ∙ sym is
          by false f = last_is (shown s.held (segment book q)) (laws.text_at theirs q)
              ((shows q).theirs_alone (λ x. cc (sym f ∙ ap (same_bytes (laws.text_at theirs q)) (sym x)
              ∙ same_bytes-refl (laws.text_at theirs q))) same)

  -- where THEIRS is BASE or OURS, it has OURS
  gives_ours : (theirs ≡ base) ⊎ (theirs ≡ ours) → export s.held book ≡ ours
  gives_ours e = export_is_file s.held book ours u.ours_book texts
    where
      texts : (q : KeyParts) → text_of s.held (segment book q) ≡ piece_at (pieces_of ours) q
      texts q = by (same_bytes (laws.text_at ours q) (laws.text_at base q)) refl e
        where
          other : laws.text_at ours q ≡ laws.text_at base q → same_bytes (laws.text_at ours q) (laws.text_at base q) ≡ false → ⊥
          other x f = cc (sym f ∙ ap (same_bytes (laws.text_at ours q)) (sym x) ∙ same_bytes-refl (laws.text_at ours q))

          by : (b : Bool) → same_bytes (laws.text_at ours q) (laws.text_at base q) ≡ b → (theirs ≡ base) ⊎ (theirs ≡ ours)
              → text_of s.held (segment book q) ≡ laws.text_at ours q
          by true f (inl is) =
              let same = same_bytes-is (laws.text_at ours q) (laws.text_at base q) f in
              unchanged_stays base ours theirs book s q u same (ap (λ (file : List ℕ). laws.text_at file q) is) ∙ sym same
          by true f (inr is) =
              let same = same_bytes-is (laws.text_at ours q) (laws.text_at base q) f in
              unchanged_stays base ours theirs book s q u same (ap (λ (file : List ℕ). laws.text_at file q) is ∙ same) ∙ sym same
          by false f (inl is) = last_is (shown s.held (segment book q)) (laws.text_at ours q)
              ((shows q).ours_alone (λ x. other x f) (ap (λ (file : List ℕ). laws.text_at file q) is))
          by false f (inr is) = last_is (shown s.held (segment book q)) (laws.text_at ours q)
              (let same = ap (λ (file : List ℕ). laws.text_at file q) (sym is) in
              (shows q).alike (λ x. other x f) (λ x. other (same ∙ x) f) same)

-- the union that a merge of texts is, whose sides are read as they are
union_of : (base ours theirs : List ℕ) (m : MergeParts) → IsMergeOf base ours theirs m → ours_read base ours theirs ≡ ours
    → theirs_read base ours theirs ≡ theirs → IsUnionOf base ours theirs m.book m.replica
union_of base ours theirs m h mine other =
    let r = is_read base ours theirs m h.is in
    record {
      base_text = h.base_text;
      theirs_text = h.theirs_text;
      base_book = r.book.of_base;
      ours_book = r.book.of_ours;
      theirs_book = r.book.of_theirs;
      is = (λ i. united base (sym mine i) (sym other i)) ∙ r.is;
    }

pub equal_sides_give_them : EqualSidesGiveThem
equal_sides_give_them base side m h =
    gives_ours base side side m.book m.replica
    (union_of base side side m h
    (as_it_is (ours_piece (pieces_of base) (pieces_of side)) side
    (each_of (λ p. piece_at (pieces_of side) p.key ≡ p.text) (λ p. ours_piece (pieces_of base) (pieces_of side) p ≡ p.text)
    (λ p e. mine_twice (piece_at (pieces_of base) p.key) p.text (piece_at (pieces_of side) p.key) e) (pieces_of side) (own_texts side)))
    (as_it_is (theirs_piece (pieces_of base) (pieces_of side)) side
    (each_of (λ p. piece_at (pieces_of side) p.key ≡ p.text) (λ p. theirs_piece (pieces_of base) (pieces_of side) p ≡ p.text)
    (λ p e. theirs_as_ours (piece_at (pieces_of base) p.key) (piece_at (pieces_of side) p.key) p.text e) (pieces_of side)
    (own_texts side))))
    (inr refl)

-- sides that are apart are read as they are
theirs_apart : (was mine text : List ℕ) → (mine ≡ was) ⊎ (text ≡ was) → theirs_text was mine text ≡ text
theirs_apart was mine text (inl e) =
    cond-true _ _ _ (or_right (same_bytes text was) (same_bytes mine was) (ap (same_bytes mine) (sym e) ∙ same_bytes-refl mine))
theirs_apart was mine text (inr e) = theirs_as_base was mine text (sym e)

mine_apart : (was mine text : List ℕ) → (mine ≡ was) ⊎ (text ≡ was) → ours_text was mine text ≡ mine
mine_apart was mine text (inl e) = mine_as_base was mine text (sym e)
mine_apart was mine text (inr e) = ap (λ (t : List ℕ). ours_text was mine t) e ∙ mine_alone was mine

at_theirs : (a was text own : List ℕ) → own ≡ text → (a ≡ was) ⊎ (own ≡ was) → (a ≡ was) ⊎ (text ≡ was)
at_theirs a was text own is (inl e) = inl e
at_theirs a was text own is (inr e) = inr (sym is ∙ e)

at_ours : (b was text own : List ℕ) → own ≡ text → (own ≡ was) ⊎ (b ≡ was) → (text ≡ was) ⊎ (b ≡ was)
at_ours b was text own is (inl e) = inl (sym is ∙ e)
at_ours b was text own is (inr e) = inr e

pub apart_have_changed : ApartHaveChanged
apart_have_changed base ours theirs m key h apart = record {
  by_ours = λ d. of_ours d (apart key);
  by_theirs = λ d. of_theirs d (apart key);
  by_neither = λ o t. shows.neither o t;
}
  where
    mine_is : ours_read base ours theirs ≡ ours
    mine_is =
        as_it_is (ours_piece (pieces_of base) (pieces_of theirs)) ours
        (each_of (λ p. piece_at (pieces_of ours) p.key ≡ p.text) (λ p. ours_piece (pieces_of base) (pieces_of theirs) p ≡ p.text)
        (λ p e. mine_apart (laws.text_at base p.key) p.text (laws.text_at theirs p.key)
        (at_ours (laws.text_at theirs p.key) (laws.text_at base p.key) p.text (laws.text_at ours p.key) e (apart p.key)))
        (pieces_of ours) (own_texts ours))

    other_is : theirs_read base ours theirs ≡ theirs
    other_is =
        as_it_is (theirs_piece (pieces_of base) (pieces_of ours)) theirs
        (each_of (λ p. piece_at (pieces_of theirs) p.key ≡ p.text) (λ p. theirs_piece (pieces_of base) (pieces_of ours) p ≡ p.text)
        (λ p e. theirs_apart (laws.text_at base p.key) (laws.text_at ours p.key) p.text
        (at_theirs (laws.text_at ours p.key) (laws.text_at base p.key) p.text (laws.text_at theirs p.key) e (apart p.key)))
        (pieces_of theirs) (own_texts theirs))

    shows : ShowsBoth (laws.text_at base key) (laws.text_at ours key) (laws.text_at theirs key) (laws.shown_texts m.replica m.book key)
    shows = unions_show_both base ours theirs m.book m.replica key (union_of base ours theirs m h mine_is other_is)

    of_ours : (laws.text_at ours key ≡ laws.text_at base key → ⊥)
        → (laws.text_at ours key ≡ laws.text_at base key) ⊎ (laws.text_at theirs key ≡ laws.text_at base key)
        → laws.shown_texts m.replica m.book key ≡ laws.text_at ours key ∷ []
    of_ours d (inl e) = absurd (d e)
    of_ours d (inr e) = shows.ours_alone d e

    of_theirs : (laws.text_at theirs key ≡ laws.text_at base key → ⊥)
        → (laws.text_at ours key ≡ laws.text_at base key) ⊎ (laws.text_at theirs key ≡ laws.text_at base key)
        → laws.shown_texts m.replica m.book key ≡ laws.text_at theirs key ∷ []
    of_theirs d (inl e) = shows.theirs_alone d e
    of_theirs d (inr e) = absurd (d e)

pub ours_alone_is_given : OursAloneIsGiven
ours_alone_is_given base ours m h =
    gives_ours base ours base m.book m.replica
    (union_of base ours base m h
    (as_it_is (ours_piece (pieces_of base) (pieces_of base)) ours
    (each_any (λ p. ours_piece (pieces_of base) (pieces_of base) p ≡ p.text) (λ p. mine_alone (piece_at (pieces_of base) p.key) p.text)
    (pieces_of ours)))
    (as_it_is (theirs_piece (pieces_of base) (pieces_of ours)) base
    (each_of (λ p. piece_at (pieces_of base) p.key ≡ p.text) (λ p. theirs_piece (pieces_of base) (pieces_of ours) p ≡ p.text)
    (λ p e. theirs_as_base (piece_at (pieces_of base) p.key) (piece_at (pieces_of ours) p.key) p.text e) (pieces_of base)
    (own_texts base))))
    (inl refl)

pub theirs_alone_is_given : TheirsAloneIsGiven
theirs_alone_is_given base theirs m h =
    gives_theirs base base theirs m.book m.replica
    (union_of base base theirs m h
    (as_it_is (ours_piece (pieces_of base) (pieces_of theirs)) base
    (each_of (λ p. piece_at (pieces_of base) p.key ≡ p.text) (λ p. ours_piece (pieces_of base) (pieces_of theirs) p ≡ p.text)
    (λ p e. mine_as_base (piece_at (pieces_of base) p.key) p.text (piece_at (pieces_of theirs) p.key) e) (pieces_of base)
    (own_texts base)))
    (as_it_is (theirs_piece (pieces_of base) (pieces_of base)) theirs
    (each_any (λ p. theirs_piece (pieces_of base) (pieces_of base) p ≡ p.text) (λ p. ours_as_base (piece_at (pieces_of base) p.key) p.text)
    (pieces_of theirs))))
    refl
