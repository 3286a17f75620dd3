-- What a walk over the tokens of a text takes, and what it leaves of a cut.
use Rattle.std.specs.Prelude.{◌≡◌, ℕ, ◌+◌, ◌-◌, Bool, true, false, ◌||◌, ◌&&◌, ◌==◌, List, [], ◌∷◌, ◌++◌, length, take, drop, Option}
use Rattle.std.specs.List.{position_or_len}
use Rattle.usfm_ref.specs.Keys.{KeyParts}
use Rattle.usfm_token.specs.Tokens.{Lexeme, is_backslash, tokens_of}
use Rattle.verse_cut.specs.Pieces.{PieceParts}
use Rattle.verse_cut.specs.Reading.{key_of, cut_from, pieces_with, is_quiet}

-- a backslash (92) is at the front, before a `c` (99) or a `v` (118), with which the names of the
-- marks that have a key begin
abbrev pub may_have_key : List ℕ → Bool
may_have_key [] = false
may_have_key (b ∷ []) = false
may_have_key (b ∷ (first ∷ rest)) = b == 92 && (first == 99 || first == 118)

-- what there is from the first mark on
abbrev pub from_mark : List ℕ → List ℕ
from_mark text = drop (position_or_len is_backslash text) text

-- A token is at the front of `here`, and then comes `after`, and has the key, where a verse is in
-- the chapter.
pub record TakesToken (chapter : ℕ) (here after : List ℕ) (key : Option KeyParts) : Type 0 where
  pub token : Lexeme
  pub front : tokens_of here ≡ token ∷ tokens_of after
  pub key_is : key ≡ key_of chapter token (tokens_of after)

-- what of a text comes before its rest
abbrev pub read_of : List ℕ → List ℕ → List ℕ
read_of from rest = take (length from - length rest) from

-- the piece that is open from a place on, where the walk is at here, and the later ones
abbrev pub pieces_at : KeyParts → ℕ → List ℕ → List ℕ → List PieceParts
pieces_at key start from here = pieces_with key start (read_of from here)
    (cut_from key (start + length (read_of from here)) (tokens_of here))

-- No mark in the text has a key above this one, so all of it goes to the open piece.
pub record GoesToEnd (key : KeyParts) (text : List ℕ) : Type 0 where
  pub is_quiet : is_quiet key (tokens_of text) ≡ true
  pub cuts : (at : ℕ) → cut_from key at (tokens_of text) ≡ (text, [])

-- The first mark in the text with a key above this one is at the front of `here`, and then comes
-- `after`. What comes before `here` goes to the open piece, and the mark opens the next.
pub record OpensAt (key : KeyParts) (text here after : List ℕ) (found : KeyParts) : Type 0 where
  pub not_quiet : is_quiet key (tokens_of text) ≡ false
  pub join : read_of text here ++ here ≡ text
  pub mark_join : read_of here after ++ after ≡ here
  pub cuts : (at : ℕ) → cut_from key at (tokens_of text)
      ≡ (read_of text here, pieces_at found (at + length (read_of text here)) here after)
