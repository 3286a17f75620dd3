-- The pieces that a book is cut into: what lies between the marks that open one (this project's own
-- rule).
use Rattle.std.specs.Prelude.{◌≡◌, ℕ, ◌+◌, ◌-◌, List, [], ◌∷◌, length, map, take, drop, IsTrue, slice_range, ◌↔◌}
use Rattle.std.specs.List.{All, flat_map}
use Rattle.usfm_ref.specs.Keys.{KeyParts, key_cmp, book_head}
use Rattle.usfm_ref.specs.Rising.{rises_by}
use Rattle.verse_cut.specs.Marks.{Keyed, keyed_marks, opening}

-- a key, where its piece starts, and the piece's bytes
pub record PieceParts : Type 0 where
  pub key : KeyParts
  pub start : ℕ
  pub text : List ℕ

-- a piece from a place to the first of the marks, and one from each mark to the next, or to the end
abbrev pub pieces_between : List ℕ → KeyParts → ℕ → List Keyed → List PieceParts
pieces_between s k at [] = record { key = k; start = at; text = drop at s } ∷ []
pieces_between s k at (m ∷ ms) = record { key = k; start = at; text = take (m.at - at) (drop at s) }
    ∷ pieces_between s m.key m.at ms

-- the pieces of a text, between the marks that open one; the first begins at 0, perhaps empty, and
-- has the key of the book head
unfoldable pub pieces_of : List ℕ → List PieceParts
pieces_of s = pieces_between s book_head 0 (opening (keyed_marks 0 s))

-- The same, as what a cut is.

-- the bytes of all pieces, one after the other
abbrev pub pieces_joined : List PieceParts → List ℕ
pieces_joined ps = flat_map (λ p. p.text) ps

-- each piece starts where the one before it ends, the first at a place
abbrev pub AreNeighbours : ℕ → List PieceParts → Type 0
AreNeighbours at [] = Unit {0}
AreNeighbours at (p ∷ ps) = (p.start ≡ at) × AreNeighbours (at + length p.text) ps

-- where a piece of a key starts
abbrev pub opened : PieceParts → Keyed
opened p = record { key = p.key; at = p.start }

-- The pieces join to the text, each starts where the one before it ends, and they start at 0, with
-- the key of the book head, and at each mark that opens a piece, with that mark's key.
pub record IsCutOf (ps : List PieceParts) (s : List ℕ) : Type 0 where
  pub join : pieces_joined ps ≡ s
  pub neighbours : AreNeighbours 0 ps
  pub opened : map opened ps ≡ record { key = book_head; at = 0 } ∷ opening (keyed_marks 0 s)

-- Each text has exactly one cut.
abbrev pub OneCut : Type 0
OneCut = (ps : List PieceParts) (s : List ℕ) → IsCutOf ps s ↔ (ps ≡ pieces_of s)

-- each piece's key is below all later ones
abbrev pub KeysRise : List PieceParts → Type 0
KeysRise ps = IsTrue (rises_by key_cmp (λ p. p.key) ps)

-- the keys of a text's pieces rise
abbrev pub PiecesRise : Type 0
PiecesRise = (s : List ℕ) → KeysRise (pieces_of s)

-- each piece is the text's bytes from its start on
abbrev pub LieIn : List ℕ → List PieceParts → Type 0
LieIn s ps = All (λ p. slice_range s p.start (p.start + length p.text) ≡ p.text) ps

-- each piece of a text is the text's bytes from the piece's start on
abbrev pub PiecesLie : Type 0
PiecesLie = (s : List ℕ) → LieIn s (pieces_of s)
