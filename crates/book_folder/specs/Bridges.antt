-- Verses under one number, as `\v 4-6` (a bridge, USFM 3.0): which keys it covers.
use Rattle.std.specs.Prelude.{ℕ, Bool, ◌&&◌, List, [], ◌∷◌, take, drop, Option, None, Some, if◌then◌else◌}
use Rattle.std.specs.List.{list_any}
use Rattle.std.specs.Ordering.{is_le, is_lt}
use Rattle.usfm_ref.specs.Books.{same_bytes}
use Rattle.usfm_ref.specs.Keys.{KeyParts, key_cmp}
use Rattle.usfm_ref.specs.Numbers.{verse_in}
use Rattle.usfm_ref.specs.declared.key.Place.TheVariants.{Verse}
use Rattle.usfm_ref.specs.declared.number.VerseMark.{VerseMark}
use Rattle.verse_cut.specs.Pieces.{PieceParts}

-- the mark `\v`
abbrev pub verse_mark : List ℕ
verse_mark = 92 ∷ 118 ∷ []

-- the text directly after the mark `\v` that a piece begins with, if it does
abbrev pub after_verse_mark : List ℕ → Option (List ℕ)
after_verse_mark text = if same_bytes (take 2 text) verse_mark then Some (drop 2 text) else None

-- the last verse of a bridge, if there is one
abbrev pub last_of : Option VerseMark → Option (ℕ × Option ℕ)
last_of None = None
last_of (Some verse) = verse.last

-- the last verse of the bridge that a text after the mark `\v` begins with, if it does
abbrev pub last_after : Option (List ℕ) → Option (ℕ × Option ℕ)
last_after None = None
last_after (Some after) = last_of (verse_in after)

-- the last verse of the bridge that a piece begins with, if it does
abbrev pub bridge_last : List ℕ → Option (ℕ × Option ℕ)
bridge_last text = last_after (after_verse_mark text)

-- the letter of a verse's last part: its own, or z
abbrev pub last_part : Option ℕ → ℕ
last_part None = 122
last_part (Some letter) = letter

-- the last key to which a bridge goes: with a verse it covers all its parts
abbrev pub bridge_end : ℕ → ℕ × Option ℕ → KeyParts
bridge_end chapter last = record {
  chapter = chapter;
  place = Verse last.0 (Some (last_part last.1));
}

-- the key to which a piece goes: the last one of its bridge, or its own
abbrev pub goes_by : KeyParts → Option (ℕ × Option ℕ) → KeyParts
goes_by key None = key
goes_by key (Some last) = bridge_end key.chapter last

-- the key to which a piece goes
abbrev pub goes_to : PieceParts → KeyParts
goes_to p = goes_by p.key (bridge_last p.text)

-- whether the bridge of a piece covers a key: it begins before it, and goes to it or beyond
abbrev pub covers : KeyParts → PieceParts → Bool
covers key p = is_lt (key_cmp p.key key) && is_le (key_cmp key (goes_to p))

-- whether a key is covered by a bridge of a file
abbrev pub is_covered : List PieceParts → KeyParts → Bool
is_covered pieces key = list_any (covers key) pieces
