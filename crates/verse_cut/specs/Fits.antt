-- Texts that fit a key (this project's own rule, over USFM 3.0's `\id` with a book's code).
use Rattle.std.specs.Prelude.{◌≡◌, ℕ, Bool, true, false, ◌||◌, ◌==◌, IsTrue, List, [], ◌∷◌, ◌++◌, codes, ◌⊎◌, if◌then◌else◌}
use Rattle.std.specs.List.{All}
use Rattle.usfm_ref.specs.Books.{is_book_code}
use Rattle.usfm_ref.specs.Keys.{KeyParts, book_head, same_key}
use Rattle.usfm_ref.specs.Numbers.{is_blank}
use Rattle.verse_cut.specs.Keys.{key_below}
use Rattle.verse_cut.specs.Marks.{Keyed, keyed_marks, opening}
use Rattle.verse_cut.specs.Pieces.{pieces_of}

-- U+FEFF in UTF-8
abbrev pub byte_order_mark : List ℕ
byte_order_mark = 239 ∷ 187 ∷ 191 ∷ []

-- The text is at most one U+FEFF, `\id`, one blank, and then what comes after.
pub record BeginsWithId (text after : List ℕ) : Type 0 where
  pub marked : Bool
  pub blank : ℕ
  pub is_blank : IsTrue (is_blank blank)
  pub text_is : text ≡ (if marked then byte_order_mark else []) ++ (codes "\\id" ++ blank ∷ after)

-- a code ends at the end, and before a blank or a backslash (92)
abbrev pub ends_code : List ℕ → Bool
ends_code [] = true
ends_code (b ∷ rest) = is_blank b || b == 92

-- The text begins with `\id` and the book's code, after which a blank, a backslash or the end
-- comes.
pub record IsHeaded (book text : List ℕ) : Type 0 where
  pub rest : List ℕ
  pub begins : BeginsWithId text (book ++ rest)
  pub ends : IsTrue (ends_code rest)

-- A text of the head of a book begins with `\id` and the book's code, and no mark in it opens a
-- piece.
abbrev pub FitsHead : List ℕ → List ℕ → Type 0
FitsHead book text = IsHeaded book text × (opening (keyed_marks 0 text) ≡ [])

-- A mark with the key is at the front, and no later mark has a greater key.
abbrev pub LeadsWith : KeyParts → List Keyed → Type 0
LeadsWith k [] = ⊥
LeadsWith k (m ∷ ms) = (m.at ≡ 0) × (m.key ≡ k) × All (λ later. key_below k later.key ≡ false) ms

-- A text of another key is empty, or it begins with a mark of that key, and no later mark has a
-- greater one. The key's chapter is in force at its front.
abbrev pub FitsKey : KeyParts → List ℕ → Type 0
FitsKey k text = (text ≡ []) ⊎ LeadsWith k (keyed_marks k.chapter text)

-- a text fits the head of the book, if the key is that one, or else fits the key
abbrev pub FitsBy : List ℕ → KeyParts → List ℕ → Bool → Type 0
FitsBy book k text true = FitsHead book text
FitsBy book k text false = FitsKey k text

-- a text fits a book and a key: as the head of that book where the key is the book head, and else
-- as a text of the key
abbrev pub Fits : List ℕ → KeyParts → List ℕ → Type 0
Fits book k text = FitsBy book k text (same_key k book_head)

-- Each piece of a text that begins with `\id` and a book's code fits the book and the piece's key.
abbrev pub PiecesFit : Type 0
PiecesFit = (book text : List ℕ) → IsTrue (is_book_code book) → IsHeaded book text
    → All (λ p. Fits book p.key p.text) (pieces_of text)
