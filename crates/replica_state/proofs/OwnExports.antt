-- The import of the export of a book whose head has an operation adds nothing.
use Rattle.std.proofs.Common.{◌≡◌, ◌≢◌, ℕ, ◌+◌, ◌≤◌, Bool, true, false, not, cond, ◌&&◌, ◌||◌, nat_le, ◌==◌, List}
use Rattle.std.proofs.Common.{[], ◌∷◌, map, filter, Option, None, Some, Result, Ok, arith, refl, sym, ap, subst, ◌∙◌}
use Rattle.std.specs.List.{AllByRecursion, list_any}
use Rattle.std.specs.Ordering.{is_eq}
use Rattle.std.specs.Option.{is_some}
use Rattle.std.proofs.lemmas.Bool.{and_parts, cond-true, leb-true, le-leb, not-true}
use Rattle.usfm_ref.specs.Books.{is_book_code, same_bytes}
use Rattle.usfm_ref.specs.Keys.{KeyParts, key_cmp, book_head, is_head, is_key, is_verse_of, same_key}
use Rattle.usfm_ref.specs.Segments.{segment}
use Rattle.usfm_ref.specs.declared.segment.Segment.{Segment}
use Rattle.usfm_ref.proofs.Orders.{same_bytes-refl, same_key-is}
use Rattle.verse_cut.specs.Keys.{key_below}
use Rattle.verse_cut.specs.Fits.{IsHeaded, Fits}
use Rattle.verse_cut.specs.Pieces.{PieceParts, pieces_of}
use Rattle.verse_cut.specs.Joins.{filled, at_book_head}
use Rattle.verse_cut.specs.Reading.{book_in, is_empty}
use Rattle.verse_cut.specs.declared.fault.BookFault.{BookFault}
use Rattle.verse_cut.proofs.BookLaws.{joins_keep_their_book}
use Rattle.verse_cut.proofs.Headings.{book_only}
use Rattle.verse_cut.proofs.KeyOrder.{above_book_head}
use Rattle.op_core.specs.Ids.{is_number}
use Rattle.op_core.specs.Names.{is_name}
use Rattle.op_core.specs.Ops.{Operation, IsOperation, MayBeText, in_segment, is_full, or_empty, own_text}
use Rattle.op_core.specs.Shown.{last, shown, text_if_any, wants_chapter_line}
use Rattle.op_core.specs.Export.{exported_keys, export}
use Rattle.op_core.specs.CutsBack.{picked_at, later_texts}
use Rattle.op_core.specs.NextIds.{greatest_number, next_number}
use Rattle.op_core.proofs.Exports.CutsBack.{exports_cut_back, keys_rise, split, texts_fit, texts_rise}
use Rattle.op_core.proofs.Exports.Exported.{IsOf, filled_verse, shown_last, picked_own, picks_are_exported, wants_line}
use Rattle.op_core.proofs.Sets.Legal.{shown_full, full_last}
use Rattle.op_core.proofs.Exports.Shows.{shows_one}
use Rattle.replica_state.specs.States.{State, IsState}
use Rattle.replica_state.specs.Edits.{first_number}
use Rattle.replica_state.specs.Imports as spec
use Rattle.replica_state.specs.Imports.{piece_of, piece_at, has_verse, is_due, loses_line}
use Rattle.replica_state.specs.Imports.{walked_keys, due_keys, due_change, import_into}
use Rattle.replica_state.specs.Changes.{edits_by, edits_or}
use Rattle.replica_state.specs.declared.fault.ImportFault.TheVariants.{NumbersUsedUp}
use Rattle.replica_state.specs.ImportLaws.{OwnExportsAddNothing}
use Rattle.replica_state.specs.Steps.{Import, Imported, imported, step}
use Rattle.replica_state.proofs.Exports.{after_head, later_at}
use Rattle.replica_state.proofs.ImportedTexts.{verse_wants_none}
use Rattle.replica_state.proofs.KeyTexts.{text_at, text_of_piece}
use Rattle.replica_state.proofs.Appended.{key_is}

some_last : (ops : List Operation) → ops ≢ [] → (o : Operation) × (last ops ≡ Some o)
some_last [] h = absurd (h refl)
some_last (o ∷ []) h = (o, refl)
some_last (o ∷ p ∷ ops) h = some_last (p ∷ ops) (λ e. cc e)

text_has_fit : (o : Operation) → IsOperation o → is_full o ≡ true → Fits o.segment.book o.segment.key (own_text o)
text_has_fit o h full = by o.text h.text full
  where
    by : (t : Option (List ℕ)) → MayBeText o.segment t → is_some t ≡ true → Fits o.segment.book o.segment.key (or_empty t)
    by None h e = cc e
    by (Some t) h e = h.fits

-- where no key passes a test, none is kept
pub none_pass : (p : KeyParts → Bool) (ks : List KeyParts) → ((q : KeyParts) → p q ≡ false) → filter p ks ≡ []
none_pass p [] f = refl
none_pass p (k ∷ ks) f = (λ i. cond (f k i) (k ∷ filter p ks) (filter p ks)) ∙ none_pass p ks f

-- a verse with a piece that is not empty is a verse of its chapter's
verse_there : (pieces : List PieceParts) (chapter : ℕ) (key : KeyParts) → is_verse_of chapter key ≡ true
    → is_empty (piece_at pieces key) ≡ false
    → has_verse pieces chapter ≡ true
verse_there [] chapter key v h = absurd (cc)
verse_there (p ∷ pieces) chapter key v h = by (λ g. verse_there pieces chapter key v g) (is_eq (key_cmp key p.key)) refl h
  where
    or_true : (b : Bool) → (b || true) ≡ true
    or_true true = refl
    or_true false = refl

    by : (is_empty (piece_at pieces key) ≡ false → has_verse pieces chapter ≡ true) → (b : Bool) → is_eq (key_cmp key p.key) ≡ b
        → is_empty (spec.piece_own_text (cond b (Some p) (piece_of pieces key))) ≡ false
        → (is_verse_of chapter p.key || has_verse pieces chapter) ≡ true
    by rest true e h = ap (λ (k : KeyParts). is_verse_of chapter k || has_verse pieces chapter) (sym (key_is key p.key e))
        ∙ ap (λ b. b || has_verse pieces chapter) v
    by rest false e h = ap (λ b. is_verse_of chapter p.key || b) (rest h) ∙ or_true (is_verse_of chapter p.key)

-- no number of a set is above the last one
pub numbers_left : (ops : List Operation) → AllByRecursion IsOperation ops → greatest_number ops ≤ 1000000000000000
numbers_left [] all = omega arith
numbers_left (o ∷ ops) all =
    let id = and_parts (is_number o.id.number) (is_name o.id.name) all.0.id in
    let own = leb-true o.id.number 1000000000000000 (and_parts (nat_le 1 o.id.number) (nat_le o.id.number 1000000000000000) id.0).1 in
    let rest = numbers_left ops all.1 in
    omega (arith, own, rest)

-- for no operations numbers are left
pub left_for_none : (held : List Operation) → AllByRecursion IsOperation held → first_number held 0 ≡ Some (next_number held)
left_for_none held each =
    let l = numbers_left held each in cond-true _ _ _ (le-leb (greatest_number held + 0) 1000000000000000 (omega (arith, l)))

module _ (s : State) (state : IsState s) (book : List ℕ) (begun : list_any (in_segment (segment book book_head)) s.held ≡ true) where
  abbrev file : List ℕ
  file = export s.held book

  -- the head's operation
  first : (o : Operation) × (last (shown s.held (segment book book_head)) ≡ Some o)
  first = some_last (shown s.held (segment book book_head)) (shows_one (segment book book_head) s.held state.set begun)

  of_head : IsOf (segment book book_head) first.0
  of_head = shown_last s.held (segment book book_head) first.0 state.set first.1

  code : is_book_code book ≡ true
  code =
      ap (λ (g : Segment). is_book_code g.book) (sym of_head.segment)
      ∙ (and_parts (is_book_code first.0.segment.book)
      (is_key first.0.segment.key.chapter first.0.segment.key.place) of_head.is_operation.segment).0

  head_text : picked_at s.held book book_head ≡ own_text first.0
  head_text = picked_own s.held (segment book book_head) refl ∙ ap text_if_any first.1

  headed : IsHeaded book file
  headed =
      let full =
      full_last (shown s.held (segment book book_head)) first.0 (shown_full s.held (segment book book_head) state.legal) first.1
      in
      let fits : Fits book book_head (own_text first.0) =
      subst (λ (g : Segment). Fits g.book g.key (own_text first.0)) of_head.segment
      (text_has_fit first.0 of_head.is_operation full) in
      let begins : IsHeaded book (picked_at s.held book book_head) =
      subst (IsHeaded book) (sym head_text) fits.0 in
      subst (IsHeaded book) (sym (split s.held book (exported_keys s.held book) (keys_rise s.held book)
      (picks_are_exported s.held book book_head)))
      (joins_keep_their_book book (picked_at s.held book book_head) (later_texts s.held book) begins (texts_fit s.held book state.set)
      (texts_rise s.held book (picked_at s.held book book_head)))

  pub named : book_in file ≡ Ok book
  named = book_only file (book_in file) refl book code headed

  -- the pieces are what is picked
  pub own_piece : (q : KeyParts) → piece_at (pieces_of file) q ≡ picked_at s.held book q
  own_piece q =
      ap (λ ps. piece_at ps q) (exports_cut_back s.held book state.set)
      ∙ text_of_piece 0 (at_book_head (picked_at s.held book book_head) ∷ filled (later_texts s.held book)) q
      ∙ by (key_below book_head q) refl
    where
      is_it : (b : Bool) → same_key q book_head ≡ b → key_below book_head q ≡ false → q ≡ book_head
      is_it true e h = same_key-is q book_head e
      is_it false e h = cc (sym h ∙ above_book_head q ∙ ap not e)

      by : (b : Bool) → key_below book_head q ≡ b
          → text_at (at_book_head (picked_at s.held book book_head) ∷ filled (later_texts s.held book)) q ≡ picked_at s.held book q
      by true e = after_head (picked_at s.held book book_head) (filled (later_texts s.held book)) q e ∙ later_at s.held book q e
      by false e =
          subst (λ (k : KeyParts). text_at (at_book_head (picked_at s.held book book_head) ∷ filled (later_texts s.held book)) k
          ≡ picked_at s.held book k) (sym (is_it (same_key q book_head) refl e)) refl

  -- a key that is picked as its chapter's line has a verse among the pieces
  line_has_verse : (q : KeyParts) → wants_chapter_line s.held (segment book q) ≡ true → has_verse (pieces_of file) q.chapter ≡ true
  line_has_verse q h =
      let v = filled_verse s.held book q.chapter (wants_line s.held (segment book q) h).verse in
      let c = and_parts (v.key.chapter == q.chapter) (not (is_head v.key.place)) v.verse in
      let none = verse_wants_none s.held (segment book v.key) (not-true (is_head v.key.place) c.1) in
      verse_there (pieces_of file) q.chapter v.key v.verse
      (ap is_empty (own_piece v.key ∙ picked_own s.held (segment book v.key) none) ∙ v.some)

  pub none_due : (q : KeyParts) → is_due s.held book (pieces_of file) q ≡ false
  none_due q =
      (λ i. not (same i) || loses_line s.held book (pieces_of file) q) ∙ by (wants_chapter_line s.held (segment book q)) refl
    where
      same : same_bytes (picked_at s.held book q) (piece_at (pieces_of file) q) ≡ true
      same = ap (same_bytes (picked_at s.held book q)) (own_piece q) ∙ same_bytes-refl (picked_at s.held book q)

      stays : (b : Bool) → (b && not true) ≡ false
      stays true = refl
      stays false = refl

      by : (w : Bool) → wants_chapter_line s.held (segment book q) ≡ w → loses_line s.held book (pieces_of file) q ≡ false
      by true e = ap (λ v. (wants_chapter_line s.held (segment book q) && is_some (piece_of (pieces_of file) q)) && not v)
          (line_has_verse q e) ∙ stays (wants_chapter_line s.held (segment book q) && is_some (piece_of (pieces_of file) q))
      by false e = ap (λ w. (w && is_some (piece_of (pieces_of file) q)) && not (has_verse (pieces_of file) q.chapter)) e

  pub adds_nothing : step s (Import file) ≡ record { after = s; reply = Imported (Ok 0) }
  adds_nothing =
      ap (λ (r : Result (List ℕ) BookFault). imported s (import_into s (pieces_of file) r)) named
      ∙ ap (λ (ks : List KeyParts). imported s (edits_or NumbersUsedUp s book (map (due_change s.held book (pieces_of file)) ks)))
      (none_pass (is_due s.held book (pieces_of file)) (walked_keys s.held book (pieces_of file)) none_due)
      ∙ ap (λ (f : Option ℕ). imported s (edits_by NumbersUsedUp f s book [])) (left_for_none s.held state.set.each)

pub own_exports_add_nothing : OwnExportsAddNothing
own_exports_add_nothing s book state begun = adds_nothing s state book begun
