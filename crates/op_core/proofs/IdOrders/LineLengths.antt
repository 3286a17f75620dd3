-- How long numbers are in a line.
use Rattle.std.proofs.Common.{ℕ, ◌<◌, ◌≤◌, ◌^◌, length, arith}
use Rattle.std.specs.Fmt.{decimal}
use Rattle.std.proofs.lemmas.Fmt.{length-decimal-le}

pub digits_of_chapter : (n : ℕ) → n < 2 ^ 16 → length (decimal n) ≤ 5
digits_of_chapter n h = length-decimal-le 5 n (omega arith) (omega arith) (omega arith)
