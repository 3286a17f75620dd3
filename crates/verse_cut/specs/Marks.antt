-- The marks of a text, their keys, and those that open a piece. Each is judged by all marks before
-- it (this project's own rule).
use Rattle.std.specs.Prelude.{ℕ, ◌+◌, max, Bool, true, ◌||◌, ◌&&◌, List, [], ◌∷◌, ◌++◌, length, codes, Option, None, Some, if◌then◌else◌}
use Rattle.std.specs.Str.{bytes_eq}
use Rattle.usfm_ref.specs.Keys.{KeyParts, book_head}
use Rattle.usfm_ref.specs.Numbers.{chapter_in}
use Rattle.usfm_token.specs.Tokens.{MarkParts, Lexeme, mark, words, mark_bytes, tokens_of}
use Rattle.verse_cut.specs.Keys.{key_below, mark_key, text_after}

-- a mark, where it starts, and the text directly after it
pub record Site : Type 0 where
  pub at : ℕ
  pub parts : MarkParts
  pub after : List ℕ

-- a mark that has a key: the key, and where the mark starts
pub record Keyed : Type 0 where
  pub key : KeyParts
  pub at : ℕ

-- the marks among tokens, the first of which starts at a place
abbrev pub sites_from : ℕ → List Lexeme → List Site
sites_from at [] = []
sites_from at (mark m ∷ ts) = record { at = at; parts = m; after = text_after ts }
    ∷ sites_from (at + length (mark_bytes m)) ts
sites_from at (words t ∷ ts) = sites_from (at + length t) ts

-- the number of a mark `\c`, if the mark is one and has a number
abbrev pub chapter_number : Site → Option ℕ
chapter_number s =
    if s.parts.nested || s.parts.closing
    then None else (if bytes_eq s.parts.name (codes "c") then chapter_in s.after else None)

-- the greater of two numbers, the first of which may be absent
abbrev pub greater_of : Option ℕ → ℕ → ℕ
greater_of None n = n
greater_of (Some m) n = max n m

-- the chapter in force after some marks: the greatest of the start chapter and the numbers of all
-- `\c` marks among them
abbrev pub chapter_in_force : ℕ → List Site → ℕ
chapter_in_force chapter [] = chapter
chapter_in_force chapter (s ∷ ss) = greater_of (chapter_number s) (chapter_in_force chapter ss)

-- the key of a mark that comes after others, if it has one
abbrev pub key_after : ℕ → List Site → Site → Option KeyParts
key_after chapter before s = mark_key (chapter_in_force chapter before) s.parts s.after

-- marks with one more at their front, which starts at a place, if that one has a key
abbrev pub with_key : Option KeyParts → ℕ → List Keyed → List Keyed
with_key None at ms = ms
with_key (Some k) at ms = record { key = k; at = at } ∷ ms

-- the marks that have a key, of those that come after others
abbrev pub keyed_after : ℕ → List Site → List Site → List Keyed
keyed_after chapter before [] = []
keyed_after chapter before (s ∷ ss) =
    with_key (key_after chapter before s) s.at (keyed_after chapter (before ++ s ∷ []) ss)

-- the marks of a text that have a key, in order, where a verse before all chapter marks is in the
-- chapter
unfoldable pub keyed_marks : ℕ → List ℕ → List Keyed
keyed_marks chapter s = keyed_after chapter [] (sites_from 0 (tokens_of s))

-- a key greater than those of all marks before
abbrev pub is_above_all : KeyParts → List Keyed → Bool
is_above_all k [] = true
is_above_all k (m ∷ before) = key_below m.key k && is_above_all k before

-- a mark opens a piece if its key is greater than the book head and than the key of every mark
-- before it
abbrev pub opens : List Keyed → Keyed → Bool
opens before m = key_below book_head m.key && is_above_all m.key before

-- of marks that come after others, those that open a piece
abbrev pub opening_after : List Keyed → List Keyed → List Keyed
opening_after before [] = []
opening_after before (m ∷ ms) =
    if opens before m then m ∷ opening_after (before ++ m ∷ []) ms
    else opening_after (before ++ m ∷ []) ms

-- the marks that open a piece
abbrev pub opening : List Keyed → List Keyed
opening ms = opening_after [] ms
