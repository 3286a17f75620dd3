-- Which verses of a chapter are there, and which are to be there by a versification (this project's
-- own rule, over the bridges and parts of verses of USFM 3.0).
use Rattle.std.specs.Prelude.{ℕ, suc, zero, ◌==◌, nat_le, nat_lt, Bool, false, not, ◌&&◌, ◌||◌, List, [], ◌∷◌, ◌++◌, length, map, filter, if◌then◌else◌}
use Rattle.std.specs.List.{list_any, flat_map}
use Rattle.std.specs.Option.{unwrap_or}
use Rattle.usfm_ref.specs.declared.key.Place.{Place}
use Rattle.usfm_ref.specs.declared.key.Place.TheVariants as place
use Rattle.usfm_token.specs.Tokens.{tokens_of}
use Rattle.verse_cut.specs.Pieces.{PieceParts}
use Rattle.versification.specs.Versifications.{Verses, is_verse}
use Rattle.covered_verses.specs.Covers.{covered_by}
use Rattle.covered_verses.specs.declared.covered.Covered.{Covered}

-- ---- numbers

-- the numbers below n, rising
unfoldable pub below : ℕ → List ℕ
below zero = []
below (suc n) = below n ++ n ∷ []

-- which numbers of verses and chapters, 0 to 999, pass
abbrev pub flags : (ℕ → Bool) → List Bool
flags p = map p (below 1000)

-- ---- what is there

-- the pieces of a chapter
abbrev pub of_chapter : ℕ → List PieceParts → List PieceParts
of_chapter c ps = filter (λ p. p.key.chapter == c) ps

-- what a text covers at a place; nothing at a head
abbrev pub covered_at : Place → List ℕ → List Covered
covered_at place.Head text = []
covered_at (place.Verse number letter) text = covered_by number letter (tokens_of text) ∷ []

-- what a piece covers
abbrev pub covered_in : PieceParts → List Covered
covered_in p = covered_at p.key.place p.text

-- what pieces cover
abbrev pub covers_of : List PieceParts → List Covered
covers_of ps = flat_map covered_in ps

-- whether a verse of this number is covered, by the verse's own text or by a bridge
abbrev pub has : ℕ → Covered → Bool
has n v = nat_le v.first n && nat_le n v.last

-- whether one of several has it
abbrev pub is_there : ℕ → List Covered → Bool
is_there n vs = list_any (has n) vs

-- whether it is a bridge
abbrev pub is_bridge : Covered → Bool
is_bridge v = nat_lt v.first v.last

-- the letter of the part of verse n with which it begins; 0 where it has the verse from its front
abbrev pub from_part : ℕ → Covered → ℕ
from_part n v = if v.first == n then unwrap_or v.letter 0 else 0

-- the letter of the part of verse n with which it ends; 255, which is above all letters, where it
-- has the verse to its end
abbrev pub to_part : ℕ → Covered → ℕ
to_part n v = if v.last == n then unwrap_or v.last_letter 255 else 255

-- whether a bridge and one after it have verse n, and the later one does not begin with a part of it
-- that comes after the part with which the bridge ends
abbrev pub meets : ℕ → Covered → Covered → Bool
meets n bridge later =
    is_bridge bridge && has n bridge
    && (has n later && nat_le (from_part n later) (to_part n bridge))

-- whether a bridge and another one have verse n
abbrev pub is_twice : ℕ → List Covered → Bool
is_twice n [] = false
is_twice n (v ∷ vs) = list_any (meets n v) vs || is_twice n vs

-- ---- what is to be there

-- whether a versification has a book
abbrev pub knows : Verses → List ℕ → Bool
knows v book = not (length (v.last_verses book) == 0)

-- whether a verse of the versification is not there
abbrev pub is_missing : Verses → List ℕ → ℕ → List Covered → ℕ → Bool
is_missing v book c vs n = is_verse v book c n && not (is_there n vs)

-- whether verse n is covered, is one from 1 on, and the versification does not have it
abbrev pub is_extra : Verses → List ℕ → ℕ → Covered → ℕ → Bool
is_extra v book c one n = nat_le 1 n && has n one && not (is_verse v book c n)

-- whether a verse is covered that the versification, which has the book, does not have
abbrev pub exceeds : Verses → List ℕ → ℕ → Covered → Bool
exceeds v book c one = knows v book && list_any (is_extra v book c one) (below 1000)

-- whether a verse from 1 on is there twice
abbrev pub is_doubled : List Covered → ℕ → Bool
is_doubled vs n = nat_le 1 n && is_twice n vs
