-- Stretches of a text, and where they are.
use Rattle.std.specs.Prelude.{◌≡◌, ℕ, ◌+◌, ◌≤◌, List, [], ◌∷◌, length, slice_range}

-- where in a text a stretch begins, and its bytes
pub record Passage : Type 0 where
  pub start : ℕ
  pub text : List ℕ

-- the bytes of a passage are the text's from its start on
abbrev pub StandsIn : List ℕ → Passage → Type 0
StandsIn s p = slice_range s p.start (p.start + length p.text) ≡ p.text

-- From a place on the passages are in the text one after another, and none overlaps the one before
-- it.
abbrev pub StandApart : List ℕ → ℕ → List Passage → Type 0
StandApart s from [] = Unit {0}
StandApart s from (p ∷ ps) = (from ≤ p.start) × StandsIn s p × (p.start + length p.text ≤ length s)
    × StandApart s (p.start + length p.text) ps
