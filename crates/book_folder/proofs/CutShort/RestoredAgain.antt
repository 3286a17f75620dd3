-- A file's pieces by the base that makes the files as they were read are what that base picks.
use Rattle.std.proofs.Common.{◌≡◌, ℕ, ◌≤◌, Bool, true, false, cond, not, ◌&&◌, ◌||◌, List, [], ◌∷◌, inl, inr, map, Option, None, Some, Ok, refl, sym, ap, ◌∙◌}
use Rattle.std.specs.Option.{is_some}
use Rattle.std.specs.Prelude.{◌==◌}
use Rattle.std.specs.Ordering.{is_eq}
use Rattle.std.proofs.lemmas.Bool.{and_parts, cond-false, cond-true, false≢true, not-true}
use Rattle.usfm_ref.specs.Books.{same_bytes}
use Rattle.usfm_ref.specs.Keys.{KeyParts, head_of, is_head, is_verse_of, key_cmp}
use Rattle.usfm_ref.specs.Segments.{segment}
use Rattle.usfm_ref.specs.declared.segment.Segment.{Segment}
use Rattle.usfm_ref.proofs.Orders.{same_bytes-refl}
use Rattle.verse_cut.specs.Pieces.{PieceParts, pieces_of}
use Rattle.verse_cut.specs.Reading.{book_in, is_empty}
use Rattle.op_core.specs.CutsBack.{picked_at}
use Rattle.op_core.specs.Ops.{Operation, own_text}
use Rattle.op_core.specs.Shown.{Pick, Line, Greatest, Empty, greatest, last, pick, picked_text, shown, text_of, wants_chapter_line}
use Rattle.op_core.proofs.Exports.Exported.{filled_verse, picked_own, wants_line}
use Rattle.op_core.proofs.FilteredLists.{any_map}
use Rattle.replica_state.specs.Imports.{has_verse, is_due, loses_line, piece_at, piece_of, piece_own_text}
use Rattle.replica_state.proofs.Appended.{key_is}
use Rattle.book_folder.specs.Likes.{like, plain}
use Rattle.book_folder.specs.Restored.{restored_by, restored_piece}
use Rattle.book_folder.proofs.CutShort.PicksArePieces.{Becomes, VersePiece, picked_is_piece, verse_text, wants_no_text}
use Rattle.book_folder.proofs.CutShort.RawPieces.{IsSolid, head_there, piece_some, piece_solid, verse_from, verse_in}

-- what comes in of a piece, if there is one
abbrev pub own_of : Pick → Option PieceParts → List ℕ
own_of p None = []
own_of p (Some piece) = restored_by p piece.text

restored_at : (base : List Operation) (book : List ℕ) (ps : List PieceParts) (key : KeyParts)
    → piece_at (map (restored_piece base book) ps) key ≡ own_of (pick base (segment book key)) (piece_of ps key)
restored_at base book [] key = refl
restored_at base book (p ∷ ps) key = by (is_eq (key_cmp key p.key)) refl (restored_at base book ps key)
  where
    by : (b : Bool) → is_eq (key_cmp key p.key) ≡ b
        → piece_at (map (restored_piece base book) ps) key ≡ own_of (pick base (segment book key)) (piece_of ps key)
        → piece_own_text (cond b (Some (restored_piece base book p)) (piece_of (map (restored_piece base book) ps) key))
        ≡ own_of (pick base (segment book key)) (cond b (Some p) (piece_of ps key))
    by true e rest = ap (λ (k : KeyParts). restored_by (pick base (segment book k)) p.text) (sym (key_is key p.key e))
    by false e rest = rest

-- a piece stays one where it is restored
restored_some : (p : Pick) (text : List ℕ) → is_empty text ≡ false → IsSolid text → is_empty (restored_by p text) ≡ false
restored_some (Line chapter) text some solid = some
restored_some Empty text some solid = some
restored_some (Greatest o) text some solid = by (like (own_text o) text) refl
  where
    own : (t : List ℕ) → like t text ≡ true → is_empty t ≡ false
    own [] e = absurd (false≢true (sym solid ∙ e))
    own (b ∷ t) e = refl

    by : (b : Bool) → like (own_text o) text ≡ b → is_empty (cond b (own_text o) text) ≡ false
    by true e = own (own_text o) e
    by false e = some

-- and is like what it was
restored_like : (p : Pick) (text : List ℕ) → like (restored_by p text) text ≡ true
restored_like (Line chapter) text = same_bytes-refl (plain text)
restored_like Empty text = same_bytes-refl (plain text)
restored_like (Greatest o) text = by (like (own_text o) text) refl
  where
    by : (b : Bool) → like (own_text o) text ≡ b → like (cond b (own_text o) text) text ≡ true
    by true e = e
    by false e = same_bytes-refl (plain text)

-- a piece that is restored has a text where there is one
found_piece : (p : Pick) (o : Option PieceParts) → is_empty (own_of p o) ≡ false → is_some o ≡ true
found_piece p None e = cc e
found_piece p (Some piece) e = refl

verses_same : (base : List Operation) (book : List ℕ) (ps : List PieceParts) (chapter : ℕ)
    → has_verse (map (restored_piece base book) ps) chapter ≡ has_verse ps chapter
verses_same base book ps chapter = any_map (λ (p : PieceParts). is_verse_of chapter p.key) (restored_piece base book) ps

module _ (was now : List Operation) (book text : List ℕ) (named : book_in text ≡ Ok book) where
  abbrev raw : List PieceParts
  raw = pieces_of text

  abbrev pieces : List PieceParts
  pieces = map (restored_piece was book) raw

  abbrev again : List PieceParts
  again = map (restored_piece now book) raw

  abbrev at : KeyParts → Segment
  at key = segment book key

  -- where there is a piece, it has a text, as any base restores it
  pub some_at : (base : List Operation) (key : KeyParts) → is_some (piece_of raw key) ≡ true
      → is_empty (piece_at (map (restored_piece base book) raw) key) ≡ false
  some_at base key h = ap is_empty (restored_at base book raw key) ∙ by (piece_of raw key) refl h
    where
      by : (r : Option PieceParts) → piece_of raw key ≡ r → is_some r ≡ true → is_empty (own_of (pick base (at key)) r) ≡ false
      by None e h = cc h
      by (Some p) e h = restored_some (pick base (at key)) p.text (piece_some book text named key p e) (piece_solid book text named key p e)

  -- and where it has a text, there is a piece
  there : (key : KeyParts) → is_empty (piece_at pieces key) ≡ false → is_some (piece_of raw key) ≡ true
  there key h = found_piece (pick was (at key)) (piece_of raw key) (ap is_empty (sym (restored_at was book raw key)) ∙ h)

  heads : (key : KeyParts) → is_empty (piece_at pieces key) ≡ false → is_head key.place ≡ false → 1 ≤ key.chapter
      → is_empty (piece_at pieces (head_of key)) ≡ false
  heads key some verse more =
      some_at was (head_of key) (head_there book text named key (there key some) verse more)

  verses : (chapter : ℕ) → has_verse pieces chapter ≡ true → VersePiece pieces chapter
  verses chapter h =
      let v = verse_in raw chapter (sym (verses_same was book raw chapter) ∙ h) in
      record { key = v.0; verse = v.1; some = some_at was v.0 v.2 }

  module _ (becomes : (key : KeyParts) → Becomes was now book pieces key) where
    -- what is picked is what came in
    picked : (key : KeyParts) → picked_at now book key ≡ piece_at pieces key
    picked = picked_is_piece was now book pieces heads verses becomes

    -- a chapter's own line came in as it is
    own_line : (key : KeyParts) (p : PieceParts) → piece_of raw key ≡ Some p → wants_chapter_line now (at key) ≡ true
        → p.text ≡ piece_at pieces key
    own_line key p e wants = by (becomes key)
      where
        none : text_of now (at key) ≡ []
        none = wants_no_text now (at key) wants

        is : piece_at pieces key ≡ restored_by (pick was (at key)) p.text
        is = restored_at was book raw key ∙ ap (own_of (pick was (at key))) e

        some : is_empty (piece_at pieces key) ≡ false
        some = some_at was key (ap is_some e)

        line : (w : Bool) → wants_chapter_line was (at key) ≡ w → picked_at was book key ≡ piece_at pieces key
            → text_of now (at key) ≡ text_of was (at key) → p.text ≡ piece_at pieces key
        line true f k same =
            sym (is ∙ ap (λ q. restored_by q p.text) (cond-true _ _ _ f))
        line false f k same =
            absurd (false≢true (sym some ∙ ap is_empty (sym k ∙ picked_own was (at key) f ∙ sym same ∙ none)))

        by : Becomes was now book pieces key → p.text ≡ piece_at pieces key
        by (inl t) = absurd (false≢true (sym some ∙ ap is_empty (sym t ∙ none)))
        by (inr k) = line (wants_chapter_line was (at key)) refl k.1 k.0

    -- so by the other set it comes in as it did
    same_at : (key : KeyParts) → piece_at again key ≡ piece_at pieces key
    same_at key = restored_at now book raw key ∙ by (piece_of raw key) refl
      where
        by : (r : Option PieceParts) → piece_of raw key ≡ r → own_of (pick now (at key)) r ≡ piece_at pieces key
        by None e = sym (restored_at was book raw key ∙ ap (own_of (pick was (at key))) e)
        by (Some p) e = turn (wants_chapter_line now (at key)) refl
          where
            is : piece_at pieces key ≡ restored_by (pick was (at key)) p.text
            is = restored_at was book raw key ∙ ap (own_of (pick was (at key))) e

            alike : like (piece_at pieces key) p.text ≡ true
            alike = ap (λ (t : List ℕ). like t p.text) is ∙ restored_like (pick was (at key)) p.text

            some : is_empty (piece_at pieces key) ≡ false
            some = some_at was key (ap is_some e)

            own : (l : Option Operation) → picked_text (greatest l) ≡ piece_at pieces key
                → restored_by (greatest l) p.text ≡ piece_at pieces key
            own None h = absurd (false≢true (sym some ∙ ap is_empty (sym h)))
            own (Some o) h =
                cond-true (like (own_text o) p.text) (own_text o) p.text (ap (λ (t : List ℕ). like t p.text) h ∙ alike) ∙ h

            turn : (w : Bool) → wants_chapter_line now (at key) ≡ w → restored_by (pick now (at key)) p.text ≡ piece_at pieces key
            turn true f = ap (λ q. restored_by q p.text) (cond-true _ _ _ f) ∙ own_line key p e f
            turn false f =
                let is_own : pick now (at key) ≡ greatest (last (shown now (at key))) = cond-false _ _ _ f in
                ap (λ q. restored_by q p.text) is_own
                ∙ own (last (shown now (at key))) (ap picked_text (sym is_own) ∙ picked key)

    -- and is what is picked
    pub again_picked : (key : KeyParts) → piece_at again key ≡ picked_at now book key
    again_picked key = same_at key ∙ sym (picked key)

    -- no chapter's line would be gone
    no_line_lost : (key : KeyParts) → loses_line now book again key ≡ false
    no_line_lost key = by (wants_chapter_line now (at key)) refl
      where
        nor : (a : Bool) → (a && false) ≡ false
        nor true = refl
        nor false = refl

        by : (w : Bool) → wants_chapter_line now (at key) ≡ w
            → (w && is_some (piece_of again key) && not (has_verse again key.chapter)) ≡ false
        by false e = refl
        by true e =
            let w = wants_line now (at key) e in
            let v = filled_verse now book key.chapter w.verse in
            let c = and_parts (v.key.chapter == key.chapter) (not (is_head v.key.place)) v.verse in
            let text : is_empty (piece_at pieces v.key) ≡ false =
            ap is_empty (sym (verse_text was now book pieces heads verses becomes v.key (not-true (is_head v.key.place) c.1))) ∙ v.some in
            let has : has_verse again key.chapter ≡ true =
            verses_same now book raw key.chapter ∙ verse_from raw key.chapter v.key v.verse (there v.key text) in
            ap (λ b. is_some (piece_of again key) && not b) has ∙ nor (is_some (piece_of again key))

    -- so no key is due
    pub again_not_due : (key : KeyParts) → is_due now book again key ≡ false
    again_not_due key =
        (λ i. not (same (again_picked key i)) || no_line_lost key i) ∙ ap (λ b. not b || false) (same_bytes-refl (picked_at now book key))
      where
        same : List ℕ → Bool
        same t = same_bytes (picked_at now book key) t
