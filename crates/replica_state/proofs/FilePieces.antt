-- What is at the keys of a file's pieces.
use Rattle.std.proofs.Common.{◌≡◌, ℕ, Bool, true, false, ◌&&◌, cond, List, [], ◌∷◌, map, take}
use Rattle.std.proofs.Common.{drop, Option, None, Some, Ok, refl, sym, ap, subst, ◌∙◌}
use Rattle.std.specs.Cmp.{Equal-is}
use Rattle.std.specs.List.{All, AllByRecursion}
use Rattle.std.specs.Ordering.{is_eq}
use Rattle.std.proofs.lemmas.Bool.{and_parts}
use Rattle.std.proofs.lemmas.List.Elements.{All-head, All-tail}
use Rattle.usfm_ref.specs.Books.{is_book_code}
use Rattle.usfm_ref.specs.Keys.{KeyParts, key_cmp, book_head, same_key}
use Rattle.usfm_ref.proofs.Orders.{key_exact, same_key-is}
use Rattle.verse_cut.specs.Fits.{IsHeaded, Fits, ends_code}
use Rattle.verse_cut.specs.Pieces.{PieceParts, pieces_of}
use Rattle.verse_cut.specs.Joins.{IsJoinOf}
use Rattle.verse_cut.specs.Reading.{after_id, book_at, book_or_bad, leading_book, book_in}
use Rattle.verse_cut.proofs.BookLaws.{books_are_joins}
use Rattle.verse_cut.proofs.FitLaws.{fits_is_read, fits_other}
use Rattle.verse_cut.proofs.Headings.{book_reads}
use Rattle.verse_cut.proofs.PieceLaws.{pieces_fit}
use Rattle.verse_cut.specs.Views.{pieces_view}
use Rattle.verse_cut.specs.declared.cutter.Piece.{Piece}
use Rattle.op_core.specs.Ids.{Id}
use Rattle.replica_state.specs.Changes.{ChangeParts}
use Rattle.replica_state.specs.Imports.{piece_own_text, piece_of, piece_at}

-- ---- the book of a file

code_leads : (bytes book : List ℕ) → leading_book bytes ≡ Some book → is_book_code book ≡ true
code_leads bytes book h = by (is_book_code (take 3 bytes) && ends_code (drop 3 bytes)) refl h
  where
    by : (e : Bool) → is_book_code (take 3 bytes) && ends_code (drop 3 bytes) ≡ e → cond e (Some (take 3 bytes)) None ≡ Some book
        → is_book_code book ≡ true
    by true e h =
        let is : take 3 bytes ≡ book = cc in
        ap is_book_code (sym is) ∙ (and_parts (is_book_code (take 3 bytes)) (ends_code (drop 3 bytes)) e).0
    by false e h = absurd (cc)

-- the book of a file is a code
pub book_is_code : (text book : List ℕ) → book_in text ≡ Ok book → is_book_code book ≡ true
unfolding book_in
book_is_code text book h = by (after_id text) h
  where
    second : (o : Option (List ℕ)) (bytes : List ℕ) → leading_book bytes ≡ o → book_or_bad o ≡ Ok book → is_book_code book ≡ true
    second None bytes e h = absurd (cc)
    second (Some b) bytes e h = let is : b ≡ book = cc in code_leads bytes book (e ∙ ap Some is)

    by : (o : Option (List ℕ)) → book_at o ≡ Ok book → is_book_code book ≡ true
    by None h = absurd (cc)
    by (Some bytes) h = second (leading_book bytes) bytes refl h

-- a file is headed by its book
pub book_is_headed : (text book : List ℕ) → book_in text ≡ Ok book → IsHeaded book text
book_is_headed text book h = book_reads text (Ok book) (sym h)

-- ---- the piece of a key

-- a piece that is found is of the key, and what holds of all holds of it
pub piece_has : (P : PieceParts → Type 0) (key : KeyParts) (pieces : List PieceParts) (p : PieceParts) → All P pieces
    → piece_of pieces key ≡ Some p
    → P p × (key ≡ p.key)
piece_has P key [] p all h = absurd (cc)
piece_has P key (q ∷ pieces) p all h = by (λ e. piece_has P key pieces p (All-tail P q pieces all) e) (is_eq (key_cmp key q.key)) refl h
  where
    by : (piece_of pieces key ≡ Some p → P p × (key ≡ p.key)) → (b : Bool) → is_eq (key_cmp key q.key) ≡ b
        → cond b (Some q) (piece_of pieces key) ≡ Some p → P p × (key ≡ p.key)
    by rest true e h =
        let is : q ≡ p = cc in
        (subst P is (All-head P q pieces all), key_exact key q.key ((Equal-is _).0 e) ∙ ap (λ (r : PieceParts). r.key) is)
    by rest false e h = rest h

-- the head of a book has a piece
pub head_has_piece : (text : List ℕ) (book : List ℕ) (j : IsJoinOf book text)
    → piece_of (pieces_of text) book_head ≡ Some (record { key = book_head; start = 0; text = j.head })
head_has_piece text book j = ap (λ ps. piece_of ps book_head) j.pieces

-- what a file has at a key, perhaps nothing, fits it
pub piece_fits : (book text : List ℕ) (key : KeyParts) → is_book_code book ≡ true → IsHeaded book text
    → Fits book key (piece_at (pieces_of text) key)
piece_fits book text key code headed = by (piece_of (pieces_of text) key) refl
  where
    absent : (b : Bool) → same_key key book_head ≡ b → piece_of (pieces_of text) key ≡ None → Fits book key []
    absent true e gone =
        absurd (let there = head_has_piece text book (books_are_joins book text code headed) in
        let here = ap (piece_of (pieces_of text)) (sym (same_key-is key book_head e)) ∙ gone in cc)
    absent false e gone = (fits_is_read book key []).0 (sym (fits_other book key [] e))

    by : (o : Option PieceParts) → piece_of (pieces_of text) key ≡ o → Fits book key (piece_own_text o)
    by None e = absent (same_key key book_head) refl e
    by (Some p) e =
        let h = piece_has (λ q. Fits book q.key q.text) key (pieces_of text) p (pieces_fit book text code headed) e in
        subst (λ k. Fits book k p.text) (sym h.1) h.0

pub all_pieces_fit : (book file : List ℕ) → Ok book ≡ book_in file → (ps : List Piece) → pieces_view ps ≡ pieces_of file → (key : KeyParts)
    → Fits book key (piece_at (pieces_view ps) key)
all_pieces_fit book file named ps same key =
    subst (λ (view : List PieceParts). Fits book key (piece_at view key)) (sym same)
    (piece_fits book file key (book_is_code file book (sym named)) (book_is_headed file book (sym named)))

-- changes of keys to texts that fit them fit their segments
pub all_fit : (book : List ℕ) (text : KeyParts → List ℕ) (ids : KeyParts → List Id) → ((key : KeyParts) → Fits book key (text key))
    → (keys : List KeyParts)
    → AllByRecursion (λ (c : ChangeParts). Fits book c.key c.text) (map (λ key. record { key = key; text = text key; ids = ids key }) keys)
all_fit book text ids fits [] = tt
all_fit book text ids fits (key ∷ keys) = (fits key, all_fit book text ids fits keys)
