-- Searches in rising lists: the test that a caller gives, and the comparisons that are counted.
use Rattle.std.specs.Prelude.{◌≡◌, ℕ, ◌<◌, ◌≤◌, ◌+◌, min, Bool}
use Rattle.std.specs.Borrow.{Bor}
use Rattle.std.specs.Fn.{Shared}
use Rattle.op_core.specs.declared.ids.search.Search.{Search}

-- each call of the test at a reference answers what p gives
abbrev pub AnswersAs : {F X : Type 0} → Shared F (Bor X × Unit {0}) Bool → (X → Bool) → F → Type 0
AnswersAs {F} {X} g p f = (a : Bor X × Unit {0}) (r : Bool) → g.post f a r → r ≡ p a.0.now

-- what a search of this many items counts: at least one comparison where there is one, up to what a
-- word holds
pub record Counts (items before after : ℕ) : Type 0 where
  pub grows : before ≤ after
  pub one : 0 < items → min (before + 1) 18446744073709551615 ≤ after

-- the same of the count that searches carry along
abbrev pub Counted : ℕ → Search → Search → Type 0
Counted items before after = Counts items before.compared after.compared
