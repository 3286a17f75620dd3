-- How a source and a sink count: in 64 bits, and a count stays at the greatest number of these
-- (this project's own rule).
use Rattle.std.specs.Prelude.{ℕ, ◌+◌, ◌-◌, ◌^◌, ◌==◌, min, nat_lt, ◌&&◌, if◌then◌else◌, Result, Ok, Err}

-- a number as a count
abbrev pub as_count : ℕ → ℕ
as_count n = min n (2 ^ 64 - 1)

-- a count after one more
abbrev pub one_more : ℕ → ℕ
one_more count = as_count (count + 1)

-- the count of failures after a call that answered this: an error is one more
abbrev pub failures_after : {T E : Type 0} → Result T E → ℕ → ℕ
failures_after (Ok _) failures = failures
failures_after (Err _) failures = one_more failures

-- the count of failures after a write of a piece of this length: an error is one more, and so is it
-- to take 0 bytes of a piece that is not empty
abbrev pub failures_after_write : {E : Type 0} → Result ℕ E → ℕ → ℕ → ℕ
failures_after_write (Ok taken) len failures =
    if taken == 0 && nat_lt 0 len then one_more failures else failures
failures_after_write (Err _) len failures = one_more failures
