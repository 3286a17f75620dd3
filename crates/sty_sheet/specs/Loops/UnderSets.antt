-- The words of OccursUnder as a sheet keeps them for look-ups. No public contract speaks of them.
use Rattle.std.specs.Prelude.{◌≡◌, ℕ, List}
use Rattle.std.specs.List.{list_any}
use Rattle.std.specs.Str.{bytes_eq}
use Rattle.indexmap.specs.IndexSet.{IndexSet}
use Rattle.std.specs.Borrow.{Bor}
use Rattle.sty_sheet.specs.Records.{has_word}

-- the set has these words and no other
abbrev pub AreWords : {S : Type 0} → IndexSet (Bor (List ℕ)) S → List (List ℕ) → Type 0
AreWords set words =
    (word : List ℕ) → list_any (λ k. bytes_eq word k.now) set.keys ≡ has_word word words
