-- Texts that fit keys, joined (this project's own rule: what makes the export of a book a book
-- again).
use Rattle.std.specs.Prelude.{◌≡◌, ℕ, ◌+◌, ◌<◌, ◌≤◌, false, not, IsTrue, List, [], ◌∷◌, ◌++◌, length, codes, ◌⊎◌}
use Rattle.std.specs.Fmt.{decimal}
use Rattle.std.specs.List.{All, Contains, flat_map, filter}
use Rattle.usfm_ref.specs.Books.{is_book_code}
use Rattle.usfm_ref.specs.Keys.{KeyParts, key_cmp, book_head, chapter_head, head_of, is_head}
use Rattle.usfm_ref.specs.Rising.{rises_by}
use Rattle.verse_cut.specs.Pieces.{PieceParts, pieces_of}
use Rattle.verse_cut.specs.Fits.{IsHeaded, Fits}
use Rattle.verse_cut.specs.Reading.{is_empty}

-- a key with a text
pub record KeyText : Type 0 where
  pub key : KeyParts
  pub text : List ℕ

-- the texts, one after the other
abbrev pub texts_joined : List KeyText → List ℕ
texts_joined ts = flat_map (λ t. t.text) ts

-- of keys with texts, those whose text is not empty
abbrev pub filled : List KeyText → List KeyText
filled ts = filter (λ t. not (is_empty t.text)) ts

-- each key is below all later ones
abbrev pub TextsRise : List KeyText → Type 0
TextsRise ts = IsTrue (rises_by key_cmp (λ t. t.key) ts)

-- each text fits the book and its key
abbrev pub TextsFit : List ℕ → List KeyText → Type 0
TextsFit book ts = All (λ t. Fits book t.key t.text) ts

-- the head of the key's chapter is there, with a text that is not empty
abbrev pub HasHead : KeyParts → List KeyText → Type 0
HasHead key ts = (h : KeyText) × Contains ts h × (h.key ≡ head_of key) × (is_empty h.text ≡ false)

-- For each verse with a text that is not empty the head of its chapter is there with one too;
-- chapter 0 needs none.
abbrev pub HeadsAreThere : List KeyText → Type 0
HeadsAreThere ts = All
    (λ t. is_empty t.text ≡ false → is_head t.key.place ≡ false → 0 < t.key.chapter
    → HasHead t.key ts) ts

-- the text of the head of the book
abbrev pub at_book_head : List ℕ → KeyText
at_book_head text = record { key = book_head; text = text }

-- the texts as pieces, one after the other from a place on
abbrev pub pieces_from : ℕ → List KeyText → List PieceParts
pieces_from at [] = []
pieces_from at (t ∷ ts) =
    record { key = t.key; start = at; text = t.text } ∷ pieces_from (at + length t.text) ts

-- A text for the head of a book, which fits or is empty, and texts that fit, by rising key, where
-- no verse lacks its chapter's head, cut back from their join: the first piece is the head's text,
-- and the others are the texts that are not empty, each with its key.
abbrev pub FittingTextsCutBack : Type 0
FittingTextsCutBack =
    (book head : List ℕ) (ts : List KeyText) →
    (head ≡ []) ⊎ Fits book book_head head →
    TextsFit book ts →
    TextsRise (at_book_head head ∷ ts) →
    HeadsAreThere ts →
    pieces_of (head ++ texts_joined ts) ≡ pieces_from 0 (at_book_head head ∷ filled ts)

-- How a text is made of a head and of texts for keys.
pub record IsJoinOf (book text : List ℕ) : Type 0 where
  pub head : List ℕ
  pub later : List KeyText
  pub join : text ≡ head ++ texts_joined later
  pub pieces : pieces_of text ≡ pieces_from 0 (at_book_head head ∷ later)
  pub head_fits : Fits book book_head head
  pub fit : TextsFit book later
  pub filled : All (λ t. is_empty t.text ≡ false) later
  pub rise : TextsRise (at_book_head head ∷ later)
  pub heads : HeadsAreThere later

-- Each text that begins with `\id` and a book's code is the join of its pieces, which are such
-- texts as cut back from their join.
abbrev pub BooksAreJoins : Type 0
BooksAreJoins =
    (book text : List ℕ) → IsTrue (is_book_code book) → IsHeaded book text → IsJoinOf book text

-- A head and texts that fit, by rising key, join to a text that begins with `\id` and the book's
-- code where the head does.
abbrev pub JoinsKeepTheirBook : Type 0
JoinsKeepTheirBook = (book head : List ℕ) (ts : List KeyText) → IsHeaded book head
    → TextsFit book ts → TextsRise (at_book_head head ∷ ts)
    → IsHeaded book (head ++ texts_joined ts)

-- the line of a chapter's head: `\c`, a space, the number and a line feed
abbrev pub chapter_line : ℕ → List ℕ
chapter_line chapter = codes "\\c " ++ decimal chapter ++ 10 ∷ []

-- The line of the head of a chapter from 1 to 999 fits that head.
abbrev pub ChapterLinesFit : Type 0
ChapterLinesFit = (book : List ℕ) (chapter : ℕ) → 1 ≤ chapter → chapter ≤ 999
    → Fits book (chapter_head chapter) (chapter_line chapter)
