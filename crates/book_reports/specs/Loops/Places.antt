-- Places that are in a text.
use Rattle.std.specs.Prelude.{ℕ, ◌+◌, ◌≤◌, List, length}
use Rattle.concordance.specs.Hits.{HitParts}

-- a hit ends in the text
abbrev pub HitFits : List ℕ → HitParts → Type 0
HitFits text h = h.start + length h.text ≤ length text
