-- What is picked at each key after an import is the file's piece.
use Rattle.std.proofs.Common.{◌≡◌, ℕ, suc, ◌+◌, length, ◌≤◌, ◌<◌, Bool, true, false, not, ◌&&◌, ◌||◌, nat_le, ◌==◌}
use Rattle.std.proofs.Common.{List, [], ◌∷◌, ◌++◌, Option, None, Some, Ok, arith, refl, sym, ap, subst, ◌∙◌, inl, inr}
use Rattle.std.specs.List.{All, Contains}
use Rattle.std.specs.Option.{is_some}
use Rattle.std.specs.Prelude.{◌⊎◌}
use Rattle.std.proofs.lemmas.Bool.{and_parts, eqb-true, not-true}
use Rattle.std.proofs.lemmas.List.Elements.{All-cons, All-head, All-tail, All-weaker}
use Rattle.usfm_ref.specs.Books.{same_bytes}
use Rattle.usfm_ref.specs.Keys.{KeyParts, chapter_head, head_of, is_head, is_verse_of}
use Rattle.usfm_ref.specs.Segments.{segment}
use Rattle.usfm_ref.specs.declared.segment.Segment.{Segment}
use Rattle.usfm_ref.proofs.Orders.{same_bytes-is}
use Rattle.verse_cut.specs.Pieces.{PieceParts, pieces_of}
use Rattle.verse_cut.specs.Joins.{KeyText, HasHead, IsJoinOf, at_book_head, pieces_from}
use Rattle.verse_cut.specs.Reading.{book_in, is_empty}
use Rattle.verse_cut.proofs.BookLaws.{books_are_joins}
use Rattle.op_core.specs.Ids.{Id}
use Rattle.op_core.specs.Ops.{Operation}
use Rattle.op_core.specs.Shown.{text_of, has_verse_text, wants_chapter_line}
use Rattle.op_core.specs.CutsBack.{picked_at}
use Rattle.op_core.specs.Lists.{shown_ids}
use Rattle.op_core.specs.NextIds.{next_number}
use Rattle.op_core.proofs.Exports.Exported.{filled_verse, picked_line, picked_own, wants_line, head_picked}
use Rattle.replica_state.specs.States.{State, IsState}
use Rattle.replica_state.specs.Imports.{piece_own_text, piece_of, piece_at, has_verse, loses_line, is_due, due_keys, due_changes}
use Rattle.replica_state.specs.Changes.{edits_from}
use Rattle.replica_state.proofs.Appended.{is_there, text_edited, text_kept}
use Rattle.replica_state.proofs.DueKeys.{due_rise, not_due}
use Rattle.replica_state.proofs.FilePieces.{book_is_code, book_is_headed}
use Rattle.replica_state.proofs.KeyTexts.{text_at, text_of_piece, stands, item_at}

contains_later : (x : KeyText) (xs : List KeyText) (t : KeyText) → Contains xs t → Contains (x ∷ xs) t
contains_later x xs t (j, lt, is) = (suc j, omega (arith, lt), is)

-- a text that is tested as empty is
pub empty_is : (t : List ℕ) → is_empty t ≡ true → t ≡ []
empty_is [] h = refl
empty_is (b ∷ bs) h = absurd (cc)

-- a key that wants its chapter's line has no text of its own
wants_no_text : (held : List Operation) (g : Segment) → wants_chapter_line held g ≡ true → text_of held g ≡ []
wants_no_text held g h =
    let a = and_parts (is_head g.key.place && nat_le 1 g.key.chapter && is_empty (text_of held g))
    (has_verse_text held g.book g.key.chapter) h in
    empty_is (text_of held g) (and_parts (is_head g.key.place && nat_le 1 g.key.chapter) (is_empty (text_of held g)) a.0).1

pub verse_wants_none : (held : List Operation) (g : Segment) → is_head g.key.place ≡ false → wants_chapter_line held g ≡ false
verse_wants_none held g h = ap (λ b. b && nat_le 1 g.key.chapter && is_empty (text_of held g) && has_verse_text held g.book g.key.chapter) h

module _ (s : State) (state : IsState s) (book file : List ℕ) (named : book_in file ≡ Ok book) where
  abbrev pub pieces : List PieceParts
  pieces = pieces_of file

  abbrev pub due : List KeyParts
  due = due_keys s.held book pieces

  abbrev pub now : List Operation
  now = s.held ++ edits_from (next_number s.held) s book (due_changes s.held book pieces)

  abbrev at : KeyParts → Segment
  at key = segment book key

  pub joined : IsJoinOf book file
  joined = books_are_joins book file (book_is_code file book named) (book_is_headed file book named)

  abbrev pub texts : List KeyText
  texts = at_book_head joined.head ∷ joined.later

  -- a piece's text is one of those that join to the file
  pub piece_text : (key : KeyParts) → piece_at pieces key ≡ text_at texts key
  piece_text key = ap (λ ps. piece_at ps key) joined.pieces ∙ text_of_piece 0 texts key

  -- where a verse has a piece that is not empty, the head of its chapter has one
  abbrev NeedsHead : KeyText → Type 0
  NeedsHead t = is_empty t.text ≡ false → is_head t.key.place ≡ false → 0 < t.key.chapter → HasHead t.key texts

  heads : All NeedsHead texts
  heads = All-cons NeedsHead (at_book_head joined.head) joined.later (λ some verse more. cc verse)
      (All-weaker (λ t. is_empty t.text ≡ false → is_head t.key.place ≡ false → 0 < t.key.chapter → HasHead t.key joined.later) NeedsHead
      (λ t f some verse more. let h = f some verse more in (h.0, contains_later (at_book_head joined.head) joined.later h.0 h.1, h.2, h.3))
      joined.later joined.heads)

  head_has_text : (key : KeyParts) → is_empty (piece_at pieces key) ≡ false → is_head key.place ≡ false → 1 ≤ key.chapter
      → is_empty (piece_at pieces (head_of key)) ≡ false
  head_has_text key some verse more =
      let t = stands NeedsHead texts key heads (ap is_empty (sym (piece_text key)) ∙ some) in
      let h = t.holds (ap is_empty (t.text ∙ sym (piece_text key)) ∙ some) (ap (λ (k : KeyParts). is_head k.place) (sym t.key) ∙ verse)
      (subst (λ (k : KeyParts). 0 < k.chapter) t.key (omega arith)) in
      let is : head_of key ≡ h.0.key = ap head_of t.key ∙ sym h.2 in
      ap is_empty (piece_text (head_of key) ∙ ap (text_at texts) is ∙ item_at texts h.0 joined.rise h.1) ∙ h.3

  -- a text of a verse is not empty
  abbrev IsFilled : KeyText → Type 0
  IsFilled t = is_head t.key.place ≡ false → is_empty t.text ≡ false

  filled_but_head : All IsFilled texts
  filled_but_head = All-cons IsFilled (at_book_head joined.head) joined.later (λ verse. cc verse)
      (All-weaker (λ t. is_empty t.text ≡ false) IsFilled (λ t f verse. f) joined.later joined.filled)

  verse_among : (chapter n : ℕ) (ts : List KeyText) → has_verse (pieces_from n ts) chapter ≡ true → All IsFilled ts
      → (t : KeyText) × Contains ts t × (is_verse_of chapter t.key ≡ true) × IsFilled t
  verse_among chapter n [] h all = cc h
  verse_among chapter n (t ∷ ts) h all =
      by (λ g. verse_among chapter (n + length t.text) ts g (All-tail IsFilled t ts all)) (is_verse_of chapter t.key) refl h
    where
      by : (has_verse (pieces_from (n + length t.text) ts) chapter ≡ true
          → (u : KeyText) × Contains ts u × (is_verse_of chapter u.key ≡ true) × IsFilled u) → (b : Bool) → is_verse_of chapter t.key ≡ b
          → (b || has_verse (pieces_from (n + length t.text) ts) chapter) ≡ true
          → (u : KeyText) × Contains (t ∷ ts) u × (is_verse_of chapter u.key ≡ true) × IsFilled u
      by rest true e h = (t, (0, omega arith, refl), e, All-head IsFilled t ts all)
      by rest false e h = let r = rest h in (r.0, contains_later t ts r.0 r.1, r.2, r.3)

  -- ---- texts

  not_due_parts : (key : KeyParts) → is_due s.held book pieces key ≡ false
      → (picked_at s.held book key ≡ piece_at pieces key) × (loses_line s.held book pieces key ≡ false)
  not_due_parts key h = by (same_bytes (picked_at s.held book key) (piece_at pieces key)) refl h
    where
      by : (b : Bool) → same_bytes (picked_at s.held book key) (piece_at pieces key) ≡ b
          → (not b || loses_line s.held book pieces key) ≡ false
          → (picked_at s.held book key ≡ piece_at pieces key) × (loses_line s.held book pieces key ≡ false)
      by true e h = (same_bytes-is (picked_at s.held book key) (piece_at pieces key) e, h)
      by false e h = cc h

  -- with an edit the text is the piece's; without one it stays, and what was picked is the piece
  abbrev Becomes : KeyParts → Type 0
  Becomes key = (text_of now (at key) ≡ piece_at pieces key) ⊎
      ((text_of now (at key) ≡ text_of s.held (at key))
      × ((picked_at s.held book key ≡ piece_at pieces key) × (loses_line s.held book pieces key ≡ false)))

  becomes : (key : KeyParts) → Becomes key
  becomes key = by (is_there key due) refl
    where
      shows : KeyParts → List Id
      shows k = shown_ids s.held (at k)

      by : (b : Bool) → is_there key due ≡ b → Becomes key
      by true e = inl (text_edited s state.set book (piece_at pieces) shows key due (due_rise s.held book pieces) e)
      by false e = inr (text_kept s state.set book (piece_at pieces) shows key due e, not_due_parts key (not_due s.held book pieces key e))

  verse_text : (key : KeyParts) → is_head key.place ≡ false → text_of now (at key) ≡ piece_at pieces key
  verse_text key verse = by (becomes key)
    where
      by : Becomes key → text_of now (at key) ≡ piece_at pieces key
      by (inl e) = e
      by (inr (e, (p, l))) = e ∙ sym (picked_own s.held (at key) (verse_wants_none s.held (at key) verse)) ∙ p

  -- ---- chapters' own lines

  -- where a verse has a text, the head of its chapter has a piece that is not empty
  line_has_piece : (chapter : ℕ) → 1 ≤ chapter → has_verse_text now book chapter ≡ true
      → is_empty (piece_at pieces (chapter_head chapter)) ≡ false
  line_has_piece chapter some h =
      let v = filled_verse now book chapter h in
      let c = and_parts (v.key.chapter == chapter) (not (is_head v.key.place)) v.verse in
      let verse = not-true (is_head v.key.place) c.1 in
      let number : v.key.chapter ≡ chapter = eqb-true v.key.chapter chapter c.0 in
      let text : is_empty (piece_at pieces v.key) ≡ false = ap is_empty (sym (verse_text v.key verse)) ∙ v.some in
      ap (λ n. is_empty (piece_at pieces (chapter_head n))) (sym number)
      ∙ head_has_text v.key text verse (subst (λ n. 1 ≤ n) (sym number) some)

  -- a chapter with a verse among the pieces has a head that is picked
  verse_has_head : (chapter : ℕ) → 1 ≤ chapter → has_verse pieces chapter ≡ true
      → is_empty (picked_at now book (chapter_head chapter)) ≡ false
  verse_has_head chapter some h =
      let v = verse_piece chapter h in
      let c = and_parts (v.0.key.chapter == chapter) (not (is_head v.0.key.place)) v.1 in
      let verse = not-true (is_head v.0.key.place) c.1 in
      let number : v.0.key.chapter ≡ chapter = eqb-true v.0.key.chapter chapter c.0 in
      let picked : is_empty (picked_at now book v.0.key) ≡ false =
      ap is_empty (picked_own now (at v.0.key) (verse_wants_none now (at v.0.key) verse) ∙ verse_text v.0.key verse) ∙ v.2
      in
      ap (λ n. is_empty (picked_at now book (chapter_head n))) (sym number)
      ∙ head_picked now book v.0.key picked verse (subst (λ n. 1 ≤ n) (sym number) some)
    where
      verse_piece : (chapter : ℕ) → has_verse pieces chapter ≡ true
          → (t : KeyText) × (is_verse_of chapter t.key ≡ true) × (is_empty (piece_at pieces t.key) ≡ false)
      verse_piece chapter h =
          let v = verse_among chapter 0 texts (ap (λ ps. has_verse ps chapter) (sym joined.pieces) ∙ h) filled_but_head in (
            v.0,
            v.2,
            ap is_empty (piece_text v.0.key ∙ item_at texts v.0 joined.rise v.1)
                ∙ v.3 (not-true (is_head v.0.key.place) (and_parts (v.0.key.chapter == chapter) (not (is_head v.0.key.place)) v.2).1),
          )

  -- ---- what is picked

  pub picked_is_piece : (key : KeyParts) → picked_at now book key ≡ piece_at pieces key
  picked_is_piece key = by (wants_chapter_line now (at key)) refl (becomes key)
    where
      kept : Bool → Type 0
      kept w = wants_chapter_line s.held (at key) ≡ w → wants_chapter_line now (at key) ≡ false
          → text_of now (at key) ≡ text_of s.held (at key) → picked_at s.held book key ≡ piece_at pieces key
          → loses_line s.held book pieces key ≡ false → picked_at now book key ≡ piece_at pieces key

      there : (o : Option PieceParts) → is_empty (piece_own_text o) ≡ false → is_some o ≡ true
      there None e = absurd (cc)
      there (Some p) e = refl

      without : (v : Bool) → has_verse pieces key.chapter ≡ v → (w : Bool) → kept w
      without v ev false e now_none same p l = picked_own now (at key) now_none ∙ same ∙ sym (picked_own s.held (at key) e) ∙ p
      without false ev true e now_none same p l =
          let line = picked_line s.held (at key) e in
          let some : is_some (piece_of pieces key) ≡ true = there (piece_of pieces key) (ap is_empty (sym p ∙ line)) in
          cc (sym l ∙ (λ i. (e i && some i) && not (ev i)))
      without true ev true e now_none same p l =
          let w = wants_line s.held (at key) e in
          let gone : picked_at now book key ≡ [] = picked_own now (at key) now_none ∙ same ∙ wants_no_text s.held (at key) e in
          let head = verse_has_head key.chapter w.some ev in
          cc (sym head ∙ ap (λ (k : KeyParts). is_empty (picked_at now book k)) (sym w.key_is) ∙ ap is_empty gone)

      with_line : wants_chapter_line now (at key) ≡ true → Becomes key → picked_at now book key ≡ piece_at pieces key
      with_line e b =
          let w = wants_line now (at key) e in
          let some : is_empty (piece_at pieces key) ≡ false =
          ap (λ (k : KeyParts). is_empty (piece_at pieces k)) w.key_is ∙ line_has_piece key.chapter w.some w.verse in
          let none = wants_no_text now (at key) e in
          cases some none b
        where
          cases : is_empty (piece_at pieces key) ≡ false → text_of now (at key) ≡ [] → Becomes key
              → picked_at now book key ≡ piece_at pieces key
          cases some none (inl t) = cc (sym some ∙ ap is_empty (sym t ∙ none))
          cases some none (inr (t, (p, l))) = was (wants_chapter_line s.held (at key)) refl
            where
              was : (w : Bool) → wants_chapter_line s.held (at key) ≡ w → picked_at now book key ≡ piece_at pieces key
              was true f = picked_line now (at key) e ∙ sym (picked_line s.held (at key) f) ∙ p
              was false f = cc (sym some ∙ ap is_empty (sym p ∙ picked_own s.held (at key) f ∙ sym t ∙ none))

      by : (b : Bool) → wants_chapter_line now (at key) ≡ b → Becomes key → picked_at now book key ≡ piece_at pieces key
      by true e b = with_line e b
      by false e (inl t) = picked_own now (at key) e ∙ t
      by false e (inr (t, (p, l))) = without (has_verse pieces key.chapter) refl (wants_chapter_line s.held (at key)) refl e t p l
