-- The hits of a needle in a text (this project's own rule).
use Rattle.std.specs.Prelude.{ℕ, ◌+◌, List, map}
use Rattle.std.specs.List.{flat_map}
use Rattle.memchr.specs.Find.{matches}
use Rattle.sty_sheet.specs.Records.{Record}
use Rattle.usfm_ref.specs.Keys.{KeyParts}
use Rattle.verse_cut.specs.Pieces.{PieceParts, pieces_of}
use Rattle.verse_cut.specs.Places.{key_at}
use Rattle.concordance.specs.Passages.{Passage}
use Rattle.concordance.specs.Plain.{plain_leaves}

-- where a needle occurs in a passage, from the left, no place overlapping one before it
abbrev pub occurrences : List ℕ → Passage → List Passage
occurrences needle p =
    map (λ at. record { start = p.start + at; text = needle }) (matches p.text needle 0)

-- a hit: the key of the piece that holds its start, its start in the text, and its bytes
pub record HitParts : Type 0 where
  pub key : KeyParts
  pub start : ℕ
  pub text : List ℕ

-- a passage as a hit, with the key of the piece that holds its start
abbrev pub keyed : List PieceParts → Passage → HitParts
keyed ps p = record { key = key_at ps p.start; start = p.start; text = p.text }

-- the hits of a needle in a text, by the records of a style sheet: where it occurs within one plain
-- leaf, from the left, none overlapping one before it, each with the key of the piece that holds
-- its start
unfoldable pub hits_of : List Record → List ℕ → List ℕ → List HitParts
hits_of sheet s needle =
    map (keyed (pieces_of s)) (flat_map (occurrences needle) (plain_leaves sheet s))

-- a hit without its key
abbrev pub passage_of : HitParts → Passage
passage_of h = record { start = h.start; text = h.text }
