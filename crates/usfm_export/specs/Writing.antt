-- What it is to write a text to a sink, piece by piece (this project's own rule).
use Rattle.std.specs.Prelude.{◌≡◌, ℕ, ◌+◌, ◌<◌, List, length, take, Option}
use Rattle.std.specs.Io.KnownBytes.{Appends}
use Rattle.usfm_export.specs.Counts.{as_count}

-- The sink took exactly this text, and its bytes are counted on from `gone_before` to `gone_after`.
pub record TakesAll (before after : Option (List ℕ)) (text : List ℕ)
    (gone_before gone_after : ℕ) : Type 0 where
  pub taken : Appends before after text
  pub counted : gone_after ≡ as_count (gone_before + length text)

-- The sink took exactly a front of this text, which is not all of it, and the front's bytes are
-- counted on from `gone_before` to `gone_after`.
pub record TakesFront (before after : Option (List ℕ)) (text : List ℕ)
    (gone_before gone_after : ℕ) : Type 0 where
  pub count : ℕ
  pub taken : Appends before after (take count text)
  pub not_all : count < length text
  pub counted : gone_after ≡ as_count (gone_before + count)
