-- The cut, and the tests of what fits, as readings from the left. The laws say that they are equal
-- to the definitions by all marks before.
use Rattle.std.specs.Prelude.{◌≡◌, ℕ, ◌+◌, Bool, true, false, not, ◌||◌, ◌&&◌, List, [], ◌∷◌, ◌++◌, length, take, drop, codes, Option, None, Some, Result, Ok, Err, if◌then◌else◌, ◌↔◌, IsTrue}
use Rattle.usfm_ref.specs.Books.{is_book_code, same_bytes}
use Rattle.usfm_ref.specs.Keys.{KeyParts, book_head, same_key}
use Rattle.usfm_ref.specs.Numbers.{is_blank}
use Rattle.usfm_token.specs.Tokens.{Lexeme, mark, words, slice_of, tokens_of}
use Rattle.verse_cut.specs.Keys.{key_below, mark_key, text_after}
use Rattle.verse_cut.specs.Pieces.{PieceParts, pieces_of}
use Rattle.verse_cut.specs.Fits.{byte_order_mark, ends_code, Fits}
use Rattle.verse_cut.specs.declared.fault.BookFault.{BookFault}
use Rattle.verse_cut.specs.declared.fault.BookFault.TheVariants.{NoId, BadBook}

-- the key of a token before others, where a verse is in the chapter
abbrev pub key_of : ℕ → Lexeme → List Lexeme → Option KeyParts
key_of chapter (words t) ts = None
key_of chapter (mark m) ts = mark_key chapter m (text_after ts)

-- ---- the cut

-- what goes to the piece that is open, and the later pieces
abbrev pub Later : Type 0
Later = List ℕ × List PieceParts

-- bytes that go to the open piece, before what later tokens give to it
abbrev pub goes_on : List ℕ → Later → Later
goes_on bytes later = (bytes ++ later.0, later.1)

-- bytes that open a piece of a key at a place; what later tokens give to the open piece goes to it
abbrev pub opens_at : KeyParts → ℕ → List ℕ → Later → Later
opens_at k at bytes later = ([], record { key = k; start = at; text = bytes ++ later.0 } ∷ later.1)

-- What tokens from a place on give, where the key of the open piece is the greatest so far. So its
-- chapter is the greatest too.
abbrev pub cut_from : KeyParts → ℕ → List Lexeme → Later
cut_from greatest at [] = ([], [])
cut_from greatest at (t ∷ ts) =
    elim (key_of greatest.chapter t ts) [
      | None ↦ goes_on (slice_of t) (cut_from greatest (at + length (slice_of t)) ts)
      | Some k ↦
          if key_below greatest k then opens_at k at (slice_of t)
          (cut_from k (at + length (slice_of t)) ts)
          else goes_on (slice_of t) (cut_from greatest (at + length (slice_of t)) ts)
    ]

-- the open piece, with what goes to it, and the later ones
abbrev pub pieces_with : KeyParts → ℕ → List ℕ → Later → List PieceParts
pieces_with k start sofar later =
    record { key = k; start = start; text = sofar ++ later.0 } ∷ later.1

-- the pieces of a text, as they are read from the left
unfoldable pub cut_of : List ℕ → List PieceParts
cut_of s = pieces_with book_head 0 [] (cut_from book_head 0 (tokens_of s))

-- the reading from the left gives the pieces of a text
abbrev pub CutIsRead : Type 0
CutIsRead = (s : List ℕ) → cut_of s ≡ pieces_of s

-- ---- headings

-- what comes after a U+FEFF, if one is at the front, and else all
abbrev pub after_bom : List ℕ → List ℕ
after_bom text = if same_bytes (take 3 text) byte_order_mark then drop 3 text else text

-- whether the first byte is a blank
abbrev pub begins_blank : List ℕ → Bool
begins_blank [] = false
begins_blank (b ∷ rest) = is_blank b

-- what comes after `\id` and one blank, if they are at the front
abbrev pub id_at : List ℕ → Option (List ℕ)
id_at bytes = if same_bytes (take 3 bytes) (codes "\\id") && begins_blank (drop 3 bytes)
    then Some (drop 4 bytes) else None

-- what comes after at most one U+FEFF, `\id` and one blank, if they are at the front
unfoldable pub after_id : List ℕ → Option (List ℕ)
after_id text = id_at (after_bom text)

-- whether a code is at the front and ends
abbrev pub code_leads : List ℕ → List ℕ → Bool
code_leads code bytes =
    same_bytes (take (length code) bytes) code && ends_code (drop (length code) bytes)

-- whether there are bytes, and a code is at their front and ends
abbrev pub code_after : List ℕ → Option (List ℕ) → Bool
code_after code None = false
code_after code (Some bytes) = code_leads code bytes

-- whether a text begins with `\id` and the book's code, which ends
abbrev pub is_headed : List ℕ → List ℕ → Bool
is_headed book text = code_after book (after_id text)

-- the code at the front, if it is a book's and ends
abbrev pub leading_book : List ℕ → Option (List ℕ)
leading_book bytes =
    if is_book_code (take 3 bytes) && ends_code (drop 3 bytes) then Some (take 3 bytes) else None

-- a book's code, or the refusal that there is none
abbrev pub book_or_bad : Option (List ℕ) → Result (List ℕ) BookFault
book_or_bad None = Err BadBook
book_or_bad (Some book) = Ok book

-- the book whose code is at the front of what follows an `\id`, or that there is no `\id`, or no
-- such code
abbrev pub book_at : Option (List ℕ) → Result (List ℕ) BookFault
book_at None = Err NoId
book_at (Some bytes) = book_or_bad (leading_book bytes)

-- the book that a text begins with; else that it does not begin with `\id` and a blank, or else
-- that no book's code follows
unfoldable pub book_in : List ℕ → Result (List ℕ) BookFault
book_in text = book_at (after_id text)

-- ---- fitting

-- no key, or one that is not above k
abbrev pub not_above : KeyParts → Option KeyParts → Bool
not_above k None = true
not_above k (Some q) = not (key_below k q)

-- no mark has a key above k, whose chapter is in force
abbrev pub is_quiet : KeyParts → List Lexeme → Bool
is_quiet k [] = true
is_quiet k (t ∷ ts) = not_above k (key_of k.chapter t ts) && is_quiet k ts

-- whether there is a key, and it is k
abbrev pub is_key : KeyParts → Option KeyParts → Bool
is_key k None = false
is_key k (Some q) = same_key q k

-- the first mark has the key k, and no later mark has one above it
abbrev pub leads : KeyParts → List Lexeme → Bool
leads k [] = false
leads k (t ∷ ts) = is_key k (key_of k.chapter t ts) && is_quiet k ts

-- whether a text is empty
abbrev pub is_empty : List ℕ → Bool
is_empty [] = true
is_empty (b ∷ rest) = false

-- whether a text fits a book and a key
unfoldable pub text_fits : List ℕ → KeyParts → List ℕ → Bool
text_fits book k text =
    if same_key k book_head then is_headed book text && is_quiet book_head (tokens_of text)
    else is_empty text || leads k (tokens_of text)

-- the test that reads from the left holds exactly of the texts that fit a book and a key
abbrev pub FitsIsRead : Type 0
FitsIsRead = (book : List ℕ) (k : KeyParts) (text : List ℕ)
    → IsTrue (text_fits book k text) ↔ Fits book k text
