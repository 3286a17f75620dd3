-- What it is to read a source to its end (this project's own rule).
use Rattle.std.specs.Prelude.{◌≡◌, ℕ, ◌+◌, ◌<◌, ◌≤◌, List, length, Option, Result, Ok, Err, Vec}
use Rattle.std.specs.Io.KnownBytes.{Consumes, IsAtEnd}
use Rattle.usfm_export.specs.Counts.{one_more}
use Rattle.byte_source.specs.declared.reading.ReadFault.{ReadFault}
use Rattle.byte_source.specs.declared.reading.ReadFault.TheVariants.{Memory, ReadFailed, TooLong}

-- the most bytes of an input
abbrev pub most_bytes : ℕ
most_bytes = 268435456

-- What is answered where the source gave these bytes and has then so much left: all of them at the
-- end of the source; that they are too long, with the first byte past the limit. Out of memory and
-- a failed read come before that; and memory is taken for bytes alone.
abbrev pub AnswersGiven : {A : Type 0} → ℕ → List ℕ → Option (List ℕ) →
    Result (Vec ℕ A) ReadFault → Type 0
AnswersGiven limit given left (Ok bytes) =
    (bytes.items ≡ given) × (length given ≤ limit) × IsAtEnd left
AnswersGiven limit given left (Err TooLong) = length given ≡ limit + 1
AnswersGiven limit given left (Err ReadFailed) = length given ≤ limit
AnswersGiven limit given left (Err Memory) = (0 < length given) × (length given ≤ limit)

-- A call read a source up to a limit: the source gave some bytes, in at most one read for each and
-- one more, and the call answered by them.
pub record ReadsUpTo {A : Type 0} (limit : ℕ) (before after : Option (List ℕ))
    (reads_before reads_after : ℕ) (answer : Result (Vec ℕ A) ReadFault) : Type 0 where
  pub given : List ℕ
  pub consumed : Consumes before after given
  pub answered : AnswersGiven limit given after answer
  pub reads : reads_after ≤ reads_before + length given + 1

-- the source's failures after the call: one more exactly where the call answers that the reader
-- failed
abbrev pub failures_after_reading : {T : Type 0} → Result T ReadFault → ℕ → ℕ
failures_after_reading (Ok _) failures = failures
failures_after_reading (Err Memory) failures = failures
failures_after_reading (Err ReadFailed) failures = one_more failures
failures_after_reading (Err TooLong) failures = failures
