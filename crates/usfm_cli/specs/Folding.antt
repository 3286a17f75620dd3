-- What a call that folds a stream into a book answers, and what it leaves of its source and its
-- sink.
use Rattle.std.specs.Prelude.{◌≡◌, ◌⊎◌, ℕ, ◌+◌, ◌<◌, ◌≤◌, List, [], length}
use Rattle.std.specs.Prelude.{Option, Result, Ok, Err, IsOk}
use Rattle.std.specs.Io.KnownBytes.{Consumes, Appends, IsAtEnd}
use Rattle.usfm_export.specs.Counts.{one_more}
use Rattle.byte_source.specs.Reading.{most_bytes}
use Rattle.usfm_export.specs.Writing.{TakesFront}
use Rattle.usfm_cli.specs.Streams.{book_of_stream, GatheringTakesMemory}
use Rattle.command_faults.specs.declared.fault.Fault.{Fault}
use Rattle.command_faults.specs.declared.fault.Fault.TheVariants.{Memory, WriteFailed}
use Rattle.command_faults.specs.declared.fault.Fault.TheVariants.{ReadFailed, TooLong}

-- What an answer says of the text that is to be written, or of its refusal, and of what the sink
-- took: all of the text, the front of it whose length is answered, or nothing.
abbrev pub AnswersText : Result (List ℕ) Fault → Option (List ℕ) → Option (List ℕ) →
    Result (Unit {0}) Fault → Type 0
AnswersText wanted before after (Ok done) =
    (text : List ℕ) × (wanted ≡ Ok text) × Appends before after text
AnswersText wanted before after (Err (WriteFailed gone)) =
    (text : List ℕ) × (wanted ≡ Ok text) × TakesFront before after text 0 gone
AnswersText wanted before after (Err Memory) = after ≡ before
AnswersText wanted before after (Err fault) = (wanted ≡ Err fault) × (after ≡ before)

-- Memory may be taken to fold bundles that were read whole: to gather them; or where they give the
-- book, whose operations are then copied.
abbrev pub FoldingTakesMemory : List ℕ → List ℕ → Type 0
FoldingTakesMemory book input = GatheringTakesMemory 0 [] input ⊎ IsOk (book_of_stream book input)

-- What an answer says of bundles that were read whole: what the book of their stream says; or out of
-- memory, only where memory may be taken to fold them, and then nothing was written.
abbrev pub AnswersBundles : List ℕ → List ℕ → Option (List ℕ) → Option (List ℕ) →
    Result (Unit {0}) Fault → Type 0
AnswersBundles book input before after (Err ReadFailed) = ⊥
AnswersBundles book input before after (Err TooLong) = ⊥
AnswersBundles book input before after (Err Memory) =
    FoldingTakesMemory book input × (after ≡ before)
AnswersBundles book input before after answer =
    AnswersText (book_of_stream book input) before after answer

-- What an answer says of the bytes that the source gave: where a read failed, where they are too
-- long and where memory ran out, which is taken for bytes alone, that nothing was written; else
-- that they are all of them, and what the book of that stream says.
abbrev pub AnswersStream : List ℕ → List ℕ → Option (List ℕ) → Option (List ℕ) → Option (List ℕ) →
    Result (Unit {0}) Fault → Type 0
AnswersStream book given left before after (Err ReadFailed) =
    (length given ≤ most_bytes) × (after ≡ before)
AnswersStream book given left before after (Err TooLong) =
    (length given ≡ most_bytes + 1) × (after ≡ before)
AnswersStream book given left before after (Err Memory) =
    (0 < length given) × (length given ≤ most_bytes) × (after ≡ before)
AnswersStream book given left before after answer =
    (length given ≤ most_bytes) × IsAtEnd left
    × AnswersText (book_of_stream book given) before after answer

-- A call folded a stream: the source gave some bytes, in at most one read for each and one more,
-- and the call answered by them.
pub record FoldsStream (book : List ℕ) (to_come left : Option (List ℕ))
    (reads_before reads_after : ℕ) (before after : Option (List ℕ))
    (answer : Result (Unit {0}) Fault) : Type 0 where
  pub given : List ℕ
  pub consumed : Consumes to_come left given
  pub reads : reads_after ≤ reads_before + length given + 1
  pub answered : AnswersStream book given left before after answer

-- the source's failures after the call: one more exactly where the call answers that the reader
-- failed
abbrev pub source_failures : Result (Unit {0}) Fault → ℕ → ℕ
source_failures (Err ReadFailed) failures = one_more failures
source_failures answer failures = failures

-- the sink's failures after the call: one more exactly where the call answers that the writer
-- failed
abbrev pub sink_failures : Result (Unit {0}) Fault → ℕ → ℕ
sink_failures (Err (WriteFailed gone)) failures = one_more failures
sink_failures answer failures = failures
