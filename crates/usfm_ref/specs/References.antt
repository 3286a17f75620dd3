-- References and keys as text: this project's own rule, over the book codes, chapters and verses of
-- USFM 3.0. A key is written `0`, `5`, `5:3` or `5:3a`, its numbers in decimal, and so without
-- leading zeros. A reference is a book's code, one space and a key.
use Rattle.std.specs.Prelude.{◌≡◌, ◌↔◌, ℕ, ◌==◌, Bool, false, ◌&&◌, IsTrue, List, [], ◌∷◌, ◌++◌, take, drop, codes, Option, None, Some, Result, Ok, Err, if◌then◌else◌}
use Rattle.std.specs.Option.{option_and_then, option_to_list}
use Rattle.std.specs.Fmt.{decimal}
use Rattle.std.specs.Char.{is_ascii_digit, is_ascii_lowercase}
use Rattle.usfm_ref.specs.Books.{is_book_code}
use Rattle.usfm_ref.specs.Keys.{KeyParts, is_key}
use Rattle.usfm_ref.specs.Numbers.{number_at}
use Rattle.usfm_ref.specs.declared.fault.RefFault.{RefFault}
use Rattle.usfm_ref.specs.declared.fault.RefFault.TheVariants.{BadBook, BadRef}
use Rattle.usfm_ref.specs.declared.key.Place.{Place}
use Rattle.usfm_ref.specs.declared.key.Place.TheVariants.{Head, Verse}

-- ---- the texts

-- what is written of a place after its chapter: nothing of the head
abbrev pub place_text : Place → List ℕ
place_text Head = []
place_text (Verse number letter) = codes ":" ++ (decimal number ++ option_to_list letter)

-- the text of a key: its chapter in decimal, and what is written of its place
abbrev pub key_text : KeyParts → List ℕ
key_text key = decimal key.chapter ++ place_text key.place

-- the text of a reference: the book's code, a space, and the text of the key
abbrev pub ref_text : List ℕ → KeyParts → List ℕ
ref_text book key = book ++ (codes " " ++ key_text key)

-- The text is the reference to a book by its code and to a key within its ranges.
pub record IsRefTo (text : List ℕ) (book : List ℕ) (key : KeyParts) : Type 0 where
  pub is_book : IsTrue (is_book_code book)
  pub is_key : IsTrue (is_key key.chapter key.place)
  pub text_is : text ≡ ref_text book key

-- ---- the same, as a reading from the left: what is read, if it is at the front, and the bytes after it

-- a zero, and a digit after it
abbrev pub is_zero_led : List ℕ → Bool
is_zero_led [] = false
is_zero_led (a ∷ []) = false
is_zero_led (a ∷ b ∷ rest) = a == 48 && is_ascii_digit b

-- a number of one to three digits without leading zeros
unfoldable pub plain_at : List ℕ → Option (ℕ × List ℕ)
plain_at bytes = if is_zero_led bytes then None else number_at bytes

-- a verse's letter or none after its number, up to the end
abbrev pub verse_to_end : ℕ → List ℕ → Option Place
verse_to_end number [] = Some (Verse number None)
verse_to_end number (b ∷ []) = if is_ascii_lowercase b then Some (Verse number (Some b)) else None
verse_to_end number (b ∷ c ∷ rest) = None

-- a place after its chapter, up to the end
unfoldable pub place_in : List ℕ → Option Place
place_in [] = Some Head
place_in (b ∷ rest) =
    if b == 58 then option_and_then (λ n. verse_to_end n.0 n.1) (plain_at rest) else None

-- a key of a chapter, if there is its place
abbrev pub key_at : ℕ → Option Place → Option KeyParts
key_at chapter None = None
key_at chapter (Some place) = Some (record { chapter = chapter; place = place })

-- the key that all of the bytes are
unfoldable pub key_in : List ℕ → Option KeyParts
key_in bytes = option_and_then (λ n. key_at n.0 (place_in n.1)) (plain_at bytes)

-- a key, or the refusal that there is none
abbrev pub key_or_bad : Option KeyParts → Result KeyParts RefFault
key_or_bad None = Err BadRef
key_or_bad (Some key) = Ok key

-- the key that a text writes; any other text is refused
abbrev pub key_of : List ℕ → Result KeyParts RefFault
key_of text = key_or_bad (key_in text)

-- the key that all of the bytes are but a space (32) in front
unfoldable pub key_after : List ℕ → Option KeyParts
key_after [] = None
key_after (b ∷ rest) = if b == 32 then key_in rest else None

-- the reference to a book, if there is its key
abbrev pub ref_to : List ℕ → Option KeyParts → Result (List ℕ × KeyParts) RefFault
ref_to book None = Err BadRef
ref_to book (Some key) = Ok (book, key)

-- the reference that all of the text is; else that its first three bytes are no book's code, or
-- else that what follows is not a space and a key
unfoldable pub ref_in : List ℕ → Result (List ℕ × KeyParts) RefFault
ref_in text = if is_book_code (take 3 text)
    then ref_to (take 3 text) (key_after (drop 3 text)) else Err BadBook

-- ---- the laws

-- a reference that was written is read again
abbrev pub ReadsWhatIsWritten : Type 0
ReadsWhatIsWritten = (book : List ℕ) (key : KeyParts) → IsTrue (is_book_code book)
    → IsTrue (is_key key.chapter key.place) → ref_in (ref_text book key) ≡ Ok (book, key)

-- a reference that was read is written with the same bytes, and its book and key are right
abbrev pub WritesWhatIsRead : Type 0
WritesWhatIsRead = (text : List ℕ) (book : List ℕ) (key : KeyParts) → ref_in text ≡ Ok (book, key)
    → IsRefTo text book key

-- A key is read from its text, and from no other text.
abbrev pub KeysAreRead : Type 0
KeysAreRead = (text : List ℕ) (key : KeyParts) →
    (key_of text ≡ Ok key) ↔ (IsTrue (is_key key.chapter key.place) × (text ≡ key_text key))
