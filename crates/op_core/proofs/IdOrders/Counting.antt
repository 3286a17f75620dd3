-- Comparisons that are counted one after another.
use Rattle.std.proofs.Common.{ℕ, arith}
use Rattle.op_core.specs.Loops.Searches.{Counts}

-- a search, and what is compared after it
pub counts_more : (n m a b c : ℕ) → Counts n a b → Counts m b c → Counts n a c
counts_more n m a b c p q = record {
  grows = omega (arith, p.grows, q.grows);
  one = λ some. omega (arith, p.one some, q.grows);
}
