-- The pieces of a text that begins with a book: each is a text that is like no empty one, and with a verse stands the head of its
-- chapter.
use Rattle.std.proofs.Common.{◌≡◌, ◌⊎◌, ℕ, suc, zero, ◌+◌, ◌≤◌, ◌<◌, length, Bool, true, false, cond, ◌||◌, List, [], ◌∷◌, ◌++◌, inl, inr, codes, Option, None, Some, Ok, arith, refl, sym, ap, subst, ◌∙◌}
use Rattle.std.specs.List.{All, Contains}
use Rattle.std.specs.Option.{is_some}
use Rattle.std.specs.Ordering.{is_eq}
use Rattle.std.specs.Prelude.{if◌then◌else◌}
use Rattle.std.proofs.lemmas.Bool.{false≢true}
use Rattle.std.proofs.lemmas.List.Elements.{All-cons, All-nil}
use Rattle.std.specs.Cmp.{tied_itself}
use Rattle.usfm_ref.specs.Keys.{KeyParts, book_head, head_of, is_head, is_verse_of, key_cmp, same_key}
use Rattle.usfm_ref.proofs.Orders.{key_total}
use Rattle.usfm_token.specs.Tokens.{BeginsMark}
use Rattle.verse_cut.specs.Fits.{Fits, FitsBy, FitsKey, IsHeaded, byte_order_mark}
use Rattle.verse_cut.specs.Joins.{HasHead, IsJoinOf, KeyText, pieces_from}
use Rattle.verse_cut.specs.Pieces.{PieceParts, pieces_of}
use Rattle.verse_cut.specs.Reading.{book_in, is_empty}
use Rattle.verse_cut.proofs.BookLaws.{books_are_joins}
use Rattle.verse_cut.proofs.JoinLaws.{begins_mark}
use Rattle.replica_state.specs.Imports.{has_verse, piece_of, piece_own_text}
use Rattle.replica_state.proofs.Appended.{key_is}
use Rattle.replica_state.proofs.FilePieces.{book_is_code, book_is_headed, piece_fits}
use Rattle.replica_state.proofs.SinceLaws.{none_there}
use Rattle.book_folder.specs.Likes.{like, without_cr}

-- ---- texts that are like no empty one

-- a text that is not empty is like no empty one
abbrev pub IsSolid : List ℕ → Type 0
IsSolid text = like [] text ≡ false

mark_solid : (rest : List ℕ) → IsSolid (92 ∷ rest)
unfolding without_cr
mark_solid [] = refl
mark_solid (b ∷ rest) = refl

headed_solid : (book text : List ℕ) → IsHeaded book text → IsSolid text
unfolding without_cr
headed_solid book text h = ap (like []) h.begins.text_is ∙ by h.begins.marked
  where
    by : (m : Bool) → IsSolid ((if m then byte_order_mark else []) ++ (codes "\\id" ++ h.begins.blank ∷ (book ++ h.rest)))
    by true = refl
    by false = refl

headed_some : (book text : List ℕ) → IsHeaded book text → is_empty text ≡ false
headed_some book text h = ap is_empty h.begins.text_is ∙ by h.begins.marked
  where
    by : (m : Bool) → is_empty ((if m then byte_order_mark else []) ++ (codes "\\id" ++ h.begins.blank ∷ (book ++ h.rest))) ≡ false
    by true = refl
    by false = refl

-- a text that fits a key begins with a mark
key_solid : (key : KeyParts) (text : List ℕ) → FitsKey key text → is_empty text ≡ false → IsSolid text
key_solid key [] fits some = cc some
key_solid key (b ∷ text) fits some = subst (λ n. IsSolid (n ∷ text)) (sym first) (mark_solid text)
  where
    one : KeyText
    one = record { key = key; text = b ∷ text }

    marked : BeginsMark ((b ∷ text) ++ [])
    marked = begins_mark (one ∷ []) (All-cons (λ (t : KeyText). FitsKey t.key t.text) one [] fits
        (All-nil (λ (t : KeyText). FitsKey t.key t.text)))

    first : b ≡ 92
    first = marked (omega arith)

fits_solid : (book text : List ℕ) (key : KeyParts) → Fits book key text → is_empty text ≡ false → IsSolid text
fits_solid book text key fits some = by (same_key key book_head) fits
  where
    by : (b : Bool) → FitsBy book key text b → IsSolid text
    by true f = headed_solid book text f.0
    by false f = key_solid key text f some

-- ---- pieces

first_or_later : {X : Type 0} (y : X) (ys : List X) (x : X) → Contains (y ∷ ys) x → (y ≡ x) ⊎ Contains ys x
first_or_later y ys x (zero, l, e) = inl e
first_or_later y ys x (suc k, l, e) = inr (k, omega arith, e)

contains_later : (x : KeyText) (xs : List KeyText) (t : KeyText) → Contains xs t → Contains (x ∷ xs) t
contains_later x xs t (j, lt, is) = (suc j, omega (arith, lt), is)

-- a piece that is found is one of the texts
text_found : (n : ℕ) (ts : List KeyText) (key : KeyParts) (p : PieceParts) → piece_of (pieces_from n ts) key ≡ Some p
    → (t : KeyText) × Contains ts t × (key ≡ t.key) × (t.text ≡ p.text)
text_found n [] key p e = cc e
text_found n (t ∷ ts) key p e =
    by (is_eq (key_cmp key t.key)) refl e (λ g. text_found (n + length t.text) ts key p g)
  where
    by : (b : Bool) → is_eq (key_cmp key t.key) ≡ b
        → cond b (Some (record { key = t.key; start = n; text = t.text })) (piece_of (pieces_from (n + length t.text) ts) key) ≡ Some p
        → (piece_of (pieces_from (n + length t.text) ts) key ≡ Some p
        → (u : KeyText) × Contains ts u × (key ≡ u.key) × (u.text ≡ p.text))
        → (u : KeyText) × Contains (t ∷ ts) u × (key ≡ u.key) × (u.text ≡ p.text)
    by true e g rest =
        let is : record { key = t.key; start = n; text = t.text } ≡ p = cc g in
        (t, (0, omega arith, refl), key_is key t.key e, ap (λ (q : PieceParts). q.text) is)
    by false e g rest = let r = rest g in (r.0, contains_later t ts r.0 r.1, r.2, r.3)

-- and one of the texts is found as a piece
piece_there : (n : ℕ) (ts : List KeyText) (t : KeyText) → Contains ts t → is_some (piece_of (pieces_from n ts) t.key) ≡ true
piece_there n [] t h = absurd (none_there t h)
piece_there n (x ∷ ts) t h = by (first_or_later x ts t h) (λ k. piece_there (n + length x.text) ts t k)
  where
    pick : (b : Bool) (later : Option PieceParts) → is_some later ≡ true
        → is_some (cond b (Some (record { key = x.key; start = n; text = x.text })) later) ≡ true
    pick true later e = refl
    pick false later e = e

    by : (x ≡ t) ⊎ Contains ts t → (Contains ts t → is_some (piece_of (pieces_from (n + length x.text) ts) t.key) ≡ true)
        → is_some (piece_of (pieces_from n (x ∷ ts)) t.key) ≡ true
    by (inl here) rest =
        ap (λ b. is_some (cond b (Some (record { key = x.key; start = n; text = x.text }))
        (piece_of (pieces_from (n + length x.text) ts) t.key)))
        (ap (λ (u : KeyText). is_eq (key_cmp t.key u.key)) here ∙ ap is_eq (tied_itself key_total t.key))
    by (inr later) rest =
        pick (is_eq (key_cmp t.key x.key)) (piece_of (pieces_from (n + length x.text) ts) t.key) (rest later)

-- what holds of all holds of one
of_one : (P : KeyText → Type 0) (ts : List KeyText) → All P ts → (t : KeyText) → Contains ts t → P t
of_one P ts all t h = subst P h.2 (all h.0 t h.1)

-- where some verse of a chapter has a piece, one is found
pub verse_in : (ps : List PieceParts) (chapter : ℕ) → has_verse ps chapter ≡ true
    → (key : KeyParts) × (is_verse_of chapter key ≡ true) × (is_some (piece_of ps key) ≡ true)
verse_in [] chapter h = cc h
verse_in (p ∷ ps) chapter h = by (is_verse_of chapter p.key) refl h (λ g. verse_in ps chapter g)
  where
    here : is_some (piece_of (p ∷ ps) p.key) ≡ true
    here = ap (λ b. is_some (cond b (Some p) (piece_of ps p.key))) (ap is_eq (tied_itself key_total p.key))

    later : (key : KeyParts) → is_some (piece_of ps key) ≡ true → is_some (piece_of (p ∷ ps) key) ≡ true
    later key e = pick (is_eq (key_cmp key p.key))
      where
        pick : (b : Bool) → is_some (cond b (Some p) (piece_of ps key)) ≡ true
        pick true = refl
        pick false = e

    by : (b : Bool) → is_verse_of chapter p.key ≡ b → (b || has_verse ps chapter) ≡ true
        → (has_verse ps chapter ≡ true → (key : KeyParts) × (is_verse_of chapter key ≡ true) × (is_some (piece_of ps key) ≡ true))
        → (key : KeyParts) × (is_verse_of chapter key ≡ true) × (is_some (piece_of (p ∷ ps) key) ≡ true)
    by true e g rest = (p.key, e, here)
    by false e g rest = let r = rest g in (r.0, r.1, later r.0 r.2)

-- and where a verse is found, some verse has a piece
pub verse_from : (ps : List PieceParts) (chapter : ℕ) (key : KeyParts) → is_verse_of chapter key ≡ true → is_some (piece_of ps key) ≡ true
    → has_verse ps chapter ≡ true
verse_from [] chapter key v h = cc h
verse_from (p ∷ ps) chapter key v h = by (is_eq (key_cmp key p.key)) refl h (λ g. verse_from ps chapter key v g)
  where
    or_true : (b : Bool) → (b || true) ≡ true
    or_true true = refl
    or_true false = refl

    by : (b : Bool) → is_eq (key_cmp key p.key) ≡ b → is_some (cond b (Some p) (piece_of ps key)) ≡ true
        → (is_some (piece_of ps key) ≡ true → has_verse ps chapter ≡ true) → (is_verse_of chapter p.key || has_verse ps chapter) ≡ true
    by true e g rest =
        ap (λ (k : KeyParts). is_verse_of chapter k || has_verse ps chapter) (sym (key_is key p.key e))
        ∙ ap (λ b. b || has_verse ps chapter) v
    by false e g rest = ap (λ b. is_verse_of chapter p.key || b) (rest g) ∙ or_true (is_verse_of chapter p.key)

module _ (book text : List ℕ) (named : book_in text ≡ Ok book) where
  abbrev pieces : List PieceParts
  pieces = pieces_of text

  joined : IsJoinOf book text
  joined = books_are_joins book text (book_is_code text book named) (book_is_headed text book named)

  -- each piece has a text
  pub piece_some : (key : KeyParts) (p : PieceParts) → piece_of pieces key ≡ Some p → is_empty p.text ≡ false
  piece_some key p e =
      by (is_eq (key_cmp key book_head)) (sym (ap (λ ps. piece_of ps key) joined.pieces) ∙ e)
    where
      by : (b : Bool) → cond b (Some (record { key = book_head; start = 0; text = joined.head }))
          (piece_of (pieces_from (0 + length joined.head) joined.later) key) ≡ Some p → is_empty p.text ≡ false
      by true g =
          let is : record { key = book_head; start = 0; text = joined.head } ≡ p = cc g in
          ap (λ (q : PieceParts). is_empty q.text) (sym is) ∙ headed_some book joined.head joined.head_fits.0
      by false g =
          let t = text_found (0 + length joined.head) joined.later key p g in
          ap is_empty (sym t.3) ∙ of_one (λ (u : KeyText). is_empty u.text ≡ false) joined.later joined.filled t.0 t.1

  -- and is like no empty one
  pub piece_solid : (key : KeyParts) (p : PieceParts) → piece_of pieces key ≡ Some p → IsSolid p.text
  piece_solid key p e =
      fits_solid book p.text key
      (subst (λ r. Fits book key (piece_own_text r)) e
      (piece_fits book text key (book_is_code text book named) (book_is_headed text book named)))
      (piece_some key p e)

  -- where a verse has a piece, the head of its chapter has one
  pub head_there : (key : KeyParts) → is_some (piece_of pieces key) ≡ true → is_head key.place ≡ false → 1 ≤ key.chapter
      → is_some (piece_of pieces (head_of key)) ≡ true
  head_there key h verse more =
      ap (λ ps. is_some (piece_of ps (head_of key))) joined.pieces
      ∙ first (is_eq (key_cmp (head_of key) book_head)) (later (piece_of more_pieces key) refl own)
    where
      more_pieces : List PieceParts
      more_pieces = pieces_from (0 + length joined.head) joined.later

      head : PieceParts
      head = record { key = book_head; start = 0; text = joined.head }

      first : (b : Bool) → is_some (piece_of more_pieces (head_of key)) ≡ true
          → is_some (cond b (Some head) (piece_of more_pieces (head_of key))) ≡ true
      first true e = refl
      first false e = e

      -- a verse is not the head of the book
      own : is_some (piece_of more_pieces key) ≡ true
      own = by (is_eq (key_cmp key book_head)) refl (sym (ap (λ ps. is_some (piece_of ps key)) joined.pieces) ∙ h)
        where
          by : (b : Bool) → is_eq (key_cmp key book_head) ≡ b → is_some (cond b (Some head) (piece_of more_pieces key)) ≡ true
              → is_some (piece_of more_pieces key) ≡ true
          by true e g = absurd (false≢true (sym verse ∙ ap (λ (k : KeyParts). is_head k.place) (key_is key book_head e)))
          by false e g = g

      later : (r : Option PieceParts) → piece_of more_pieces key ≡ r → is_some r ≡ true
          → is_some (piece_of more_pieces (head_of key)) ≡ true
      later None e g = cc g
      later (Some p) e g =
          let t = text_found (0 + length joined.head) joined.later key p e in
          let some = of_one (λ (u : KeyText). is_empty u.text ≡ false) joined.later joined.filled t.0 t.1 in
          let needs = of_one (λ (u : KeyText). is_empty u.text ≡ false → is_head u.key.place ≡ false → 0 < u.key.chapter
          → HasHead u.key joined.later) joined.later joined.heads t.0 t.1 in
          let above : 0 < key.chapter = omega (arith, more) in
          let c = needs some (ap (λ (k : KeyParts). is_head k.place) (sym t.2) ∙ verse)
          (subst (λ (k : KeyParts). 0 < k.chapter) t.2 above) in
          ap (λ (k : KeyParts). is_some (piece_of more_pieces k)) (ap head_of t.2 ∙ sym c.2)
          ∙ piece_there (0 + length joined.head) joined.later c.0 c.1
