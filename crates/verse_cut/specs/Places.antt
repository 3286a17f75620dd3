-- The key of a place in a text: that of the piece that holds it (this project's own rule).
use Rattle.std.specs.Prelude.{ℕ, ◌+◌, nat_le, nat_lt, Bool, ◌&&◌, List, length, find}
use Rattle.std.specs.Option.{option_map_or}
use Rattle.usfm_ref.specs.Keys.{KeyParts, book_head}
use Rattle.verse_cut.specs.Pieces.{PieceParts}

-- the piece holds a place
abbrev pub holds : ℕ → PieceParts → Bool
holds at p = nat_le p.start at && nat_lt at (p.start + length p.text)

-- the key of the piece that holds a place; after all of them, the head of the book
abbrev pub key_at : List PieceParts → ℕ → KeyParts
key_at ps at = option_map_or (λ p. p.key) (find (holds at) ps) book_head
