-- A set in which each segment of a book has the text of a file's piece exports the file.
use Rattle.std.proofs.Common.{◌≡◌, ℕ, suc, ◌<◌, ◌≤◌, Bool, true, false, not, cond, ◌&&◌, ◌==◌, nat_le, List, [], ◌∷◌, ◌++◌}
use Rattle.std.proofs.Common.{Ok, arith, refl, sym, ap, subst, ◌∙◌}
use Rattle.std.specs.List.{All, Contains, list_all}
use Rattle.std.specs.Ordering.{is_eq}
use Rattle.std.proofs.lemmas.Bool.{and_parts, cond-false, eqb-true, false≢true, not-true}
use Rattle.std.proofs.lemmas.List.Elements.{All-cons, All-weaker}
use Rattle.usfm_ref.specs.Keys.{KeyParts, key_cmp, book_head, chapter_head, head_of, is_head}
use Rattle.usfm_ref.specs.Rising.{rises_by}
use Rattle.usfm_ref.specs.Segments.{segment}
use Rattle.usfm_ref.proofs.Orders.{key_total}
use Rattle.usfm_ref.proofs.Sorted.{rises_filter}
use Rattle.verse_cut.specs.Keys.{key_below}
use Rattle.verse_cut.specs.Pieces.{pieces_of}
use Rattle.verse_cut.specs.Joins.{KeyText, HasHead, IsJoinOf, at_book_head, filled, texts_joined}
use Rattle.verse_cut.specs.Reading.{book_in, is_empty}
use Rattle.verse_cut.proofs.BookLaws.{books_are_joins}
use Rattle.op_core.specs.Ops.{Operation}
use Rattle.op_core.specs.Shown.{text_of, has_verse_text, wants_chapter_line}
use Rattle.op_core.specs.Export.{exported_keys, export}
use Rattle.op_core.specs.CutsBack.{picked_at, later_texts}
use Rattle.op_core.proofs.Exports.CutsBack.{keys_rise, split, texts_rise}
use Rattle.op_core.proofs.Exports.Exported.{filled_verse, picked_own, picks_are_exported, wants_line}
use Rattle.replica_state.specs.Imports.{piece_at}
use Rattle.replica_state.proofs.Appended.{key_is}
use Rattle.replica_state.proofs.Exports.{after_head, later_at, later_none}
use Rattle.replica_state.proofs.FilePieces.{book_is_code, book_is_headed}
use Rattle.replica_state.proofs.ImportedTexts.{empty_is}
use Rattle.replica_state.proofs.KeyTexts.{own_text, text_at, text_of_piece, stands, item_at, same_texts, filled_are}

contains_later : (x : KeyText) (xs : List KeyText) (t : KeyText) → Contains xs t → Contains (x ∷ xs) t
contains_later x xs t (j, lt, is) = (suc j, omega (arith, lt), is)

-- empty texts add nothing to a join
joined_filled : (ts : List KeyText) → texts_joined ts ≡ texts_joined (filled ts)
joined_filled [] = refl
joined_filled (t ∷ ts) = by (joined_filled ts) (is_empty t.text) refl
  where
    by : texts_joined ts ≡ texts_joined (filled ts) → (b : Bool) → is_empty t.text ≡ b
        → t.text ++ texts_joined ts ≡ texts_joined (cond (not b) (t ∷ filled ts) (filled ts))
    by rest true e = ap (λ (r : List ℕ). r ++ texts_joined ts) (empty_is t.text e) ∙ rest
    by rest false e = ap (λ (r : List ℕ). t.text ++ r) rest

-- a list after the head of the book has nothing at keys that are not
after_none : (ts : List KeyText) (q : KeyParts) → list_all (λ t. key_below book_head t.key) ts ≡ true → key_below book_head q ≡ false
    → text_at ts q ≡ []
after_none [] q h f = refl
after_none (t ∷ ts) q h f = by (after_none ts q p.1 f) (is_eq (key_cmp q t.key)) refl
  where
    p : (key_below book_head t.key ≡ true) × (list_all (λ t. key_below book_head t.key) ts ≡ true)
    p = and_parts (key_below book_head t.key) (list_all (λ t. key_below book_head t.key) ts) h

    by : text_at ts q ≡ [] → (b : Bool) → is_eq (key_cmp q t.key) ≡ b → text_at (t ∷ ts) q ≡ []
    by rest true e = cc (sym f ∙ ap (key_below book_head) (key_is q t.key e) ∙ p.0)
    by rest false e = ap own_text (cond-false _ _ _ e) ∙ rest

module _ (held : List Operation) (book file : List ℕ) (named : book_in file ≡ Ok book)
    (texts : (q : KeyParts) → text_of held (segment book q) ≡ piece_at (pieces_of file) q) where
  j : IsJoinOf book file
  j = books_are_joins book file (book_is_code file book named) (book_is_headed file book named)

  abbrev ts : List KeyText
  ts = at_book_head j.head ∷ j.later

  piece_text : (q : KeyParts) → piece_at (pieces_of file) q ≡ text_at ts q
  piece_text q = ap (λ ps. piece_at ps q) j.pieces ∙ text_of_piece 0 ts q

  -- where a verse has a piece that is not empty, the head of its chapter has one
  abbrev NeedsHead : KeyText → Type 0
  NeedsHead t = is_empty t.text ≡ false → is_head t.key.place ≡ false → 0 < t.key.chapter → HasHead t.key ts

  heads : All NeedsHead ts
  heads = All-cons NeedsHead (at_book_head j.head) j.later (λ some verse more. cc verse)
      (All-weaker (λ t. is_empty t.text ≡ false → is_head t.key.place ≡ false → 0 < t.key.chapter → HasHead t.key j.later) NeedsHead
      (λ t f some verse more. let h = f some verse more in (h.0, contains_later (at_book_head j.head) j.later h.0 h.1, h.2, h.3)) j.later
      j.heads)

  head_has_text : (q : KeyParts) → is_empty (piece_at (pieces_of file) q) ≡ false → is_head q.place ≡ false → 1 ≤ q.chapter
      → is_empty (piece_at (pieces_of file) (head_of q)) ≡ false
  head_has_text q some verse more =
      let t = stands NeedsHead ts q heads (ap is_empty (sym (piece_text q)) ∙ some) in
      let h = t.holds (ap is_empty (t.text ∙ sym (piece_text q)) ∙ some) (ap (λ (k : KeyParts). is_head k.place) (sym t.key) ∙ verse)
      (subst (λ (k : KeyParts). 0 < k.chapter) t.key (omega arith)) in
      let is : head_of q ≡ h.0.key = ap head_of t.key ∙ sym h.2 in
      ap is_empty (piece_text (head_of q) ∙ ap (text_at ts) is ∙ item_at ts h.0 j.rise h.1) ∙ h.3

  -- no chapter wants a line
  none_wanted : (q : KeyParts) → wants_chapter_line held (segment book q) ≡ true → ⊥
  none_wanted q e =
      let w = wants_line held (segment book q) e in
      let v = filled_verse held book q.chapter w.verse in
      let c = and_parts (v.key.chapter == q.chapter) (not (is_head v.key.place)) v.verse in
      let number : v.key.chapter ≡ q.chapter = eqb-true v.key.chapter q.chapter c.0 in
      let some : is_empty (piece_at (pieces_of file) v.key) ≡ false = ap is_empty (sym (texts v.key)) ∙ v.some in
      let head : is_empty (piece_at (pieces_of file) (chapter_head v.key.chapter)) ≡ false =
      head_has_text v.key some (not-true (is_head v.key.place) c.1) (subst (λ n. 1 ≤ n) (sym number) w.some) in
      let parts = and_parts ((is_head q.place && nat_le 1 q.chapter) && is_empty (text_of held (segment book q)))
      (has_verse_text held book q.chapter) e in
      let none = (and_parts (is_head q.place && nat_le 1 q.chapter) (is_empty (text_of held (segment book q))) parts.0).1 in
      false≢true (sym head ∙ ap (λ n. is_empty (piece_at (pieces_of file) (chapter_head n))) number
      ∙ ap (λ (k : KeyParts). is_empty (piece_at (pieces_of file) k)) (sym w.key_is) ∙ ap is_empty (sym (texts q)) ∙ none)

  picked : (q : KeyParts) → picked_at held book q ≡ piece_at (pieces_of file) q
  picked q = by (wants_chapter_line held (segment book q)) refl
    where
      by : (b : Bool) → wants_chapter_line held (segment book q) ≡ b → picked_at held book q ≡ piece_at (pieces_of file) q
      by true e = absurd (none_wanted q e)
      by false e = picked_own held (segment book q) e ∙ texts q

  filled_rise : (xs : List KeyText) → rises_by key_cmp (λ t. t.key) xs ≡ true → rises_by key_cmp (λ t. t.key) (filled xs) ≡ true
  filled_rise xs h = rises_filter key_cmp key_total (λ (t : KeyText). t.key) (λ (t : KeyText). not (is_empty t.text)) xs h

  later_is : filled (later_texts held book) ≡ j.later
  later_is =
      let above = and_parts (list_all (λ (t : KeyText). key_below book_head t.key) j.later)
      (rises_by key_cmp (λ (t : KeyText). t.key) j.later) j.rise in
      let own = and_parts (list_all (λ (t : KeyText). key_below book_head t.key) (later_texts held book))
      (rises_by key_cmp (λ (t : KeyText). t.key) (later_texts held book)) (texts_rise held book []) in
      same_texts (filled (later_texts held book)) j.later (filled_rise (later_texts held book) own.1) above.1
      (filled_are (later_texts held book)) j.filled (λ q. at q (key_below book_head q) refl above.0)
    where
      at : (q : KeyParts) (b : Bool) → key_below book_head q ≡ b → list_all (λ t. key_below book_head t.key) j.later ≡ true
          → text_at (filled (later_texts held book)) q ≡ text_at j.later q
      at q true e above = later_at held book q e ∙ picked q ∙ piece_text q ∙ after_head j.head j.later q e
      at q false e above = later_none held book q e ∙ sym (after_none j.later q above e)

  pub export_is_file : export held book ≡ file
  export_is_file =
      split held book (exported_keys held book) (keys_rise held book) (picks_are_exported held book book_head)
      ∙ ap (λ (r : List ℕ). picked_at held book book_head ++ r) (joined_filled (later_texts held book))
      ∙ (λ i. (picked book_head ∙ piece_text book_head) i ++ texts_joined (later_is i))
      ∙ sym j.join
