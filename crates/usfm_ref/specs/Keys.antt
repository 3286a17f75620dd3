-- Keys: where in a book a text is. Ranges and order are this project's own rule, over the chapters
-- and verses of USFM 3.0 (`\c`, `\v`, and verse parts as `3a`).
use Rattle.std.specs.Prelude.{ℕ, nat_le, ◌==◌, Bool, true, false, not, ◌&&◌, Option, Some, None}
use Rattle.std.specs.declared.cmp.Ordering.{Ordering}
use Rattle.std.specs.declared.cmp.Ordering.TheVariants.{Less, Equal, Greater}
use Rattle.std.specs.Ordering.{nat_cmp, ordering_then}
use Rattle.usfm_ref.specs.declared.key.Place.{Place}
use Rattle.usfm_ref.specs.declared.key.Place.TheVariants.{Head, Verse}

-- a key: a chapter, and a place in it
pub record KeyParts : Type 0 where
  pub chapter : ℕ
  pub place : Place

-- no letter, or one of a to z
abbrev pub is_letter : Option ℕ → Bool
is_letter None = true
is_letter (Some c) = nat_le 97 c && nat_le c 122

-- a head, or a verse 0 to 999 with or without a letter
abbrev pub is_place : Place → Bool
is_place Head = true
is_place (Verse number letter) = nat_le number 999 && is_letter letter

-- a chapter 0 to 999 and a place
abbrev pub is_key : ℕ → Place → Bool
is_key chapter place = nat_le chapter 999 && is_place place

-- the head of a chapter; that of chapter 0 is the head of the book
abbrev pub chapter_head : ℕ → KeyParts
chapter_head chapter = record { chapter = chapter; place = Head }

-- the head of the book, which is the head of chapter 0
abbrev pub book_head : KeyParts
book_head = chapter_head 0

-- the head of the chapter that a key is in
abbrev pub head_of : KeyParts → KeyParts
head_of key = chapter_head key.chapter

-- whether a place is a head
abbrev pub is_head : Place → Bool
is_head Head = true
is_head (Verse number letter) = false

-- whether the key is a verse of the chapter
abbrev pub is_verse_of : ℕ → KeyParts → Bool
is_verse_of chapter key = (key.chapter == chapter) && not (is_head key.place)

-- an absent letter comes before all letters, and these go from a to z
abbrev pub letter_cmp : Option ℕ → Option ℕ → Ordering
letter_cmp None None = Equal
letter_cmp None (Some b) = Less
letter_cmp (Some a) None = Greater
letter_cmp (Some a) (Some b) = nat_cmp a b

-- the head comes before all verses; verses go by number, and then by letter
abbrev pub place_cmp : Place → Place → Ordering
place_cmp Head Head = Equal
place_cmp Head (Verse n l) = Less
place_cmp (Verse n l) Head = Greater
place_cmp (Verse n l) (Verse m k) = ordering_then (nat_cmp n m) (letter_cmp l k)

-- keys go by chapter, and then by place
abbrev pub key_cmp : KeyParts → KeyParts → Ordering
key_cmp a b = ordering_then (nat_cmp a.chapter b.chapter) (place_cmp a.place b.place)

-- whether two letters are the same, or neither is there
abbrev pub same_letter : Option ℕ → Option ℕ → Bool
same_letter None None = true
same_letter None (Some b) = false
same_letter (Some a) None = false
same_letter (Some a) (Some b) = a == b

-- whether two places are both heads, or verses with the same number and the same letter
abbrev pub same_place : Place → Place → Bool
same_place Head Head = true
same_place Head (Verse n l) = false
same_place (Verse n l) Head = false
same_place (Verse n l) (Verse m k) = (n == m) && same_letter l k

-- whether two keys have the same chapter and the same place
abbrev pub same_key : KeyParts → KeyParts → Bool
same_key a b = (a.chapter == b.chapter) && same_place a.place b.place
