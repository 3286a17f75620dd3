-- What a call that writes a report answers, and what it leaves of its sink.
use Rattle.std.specs.Prelude.{◌≡◌, ℕ, List, Option, Result, Ok, Err}
use Rattle.std.specs.Io.KnownBytes.{Appends}
use Rattle.op_core.specs.Ops.{Operation}
use Rattle.usfm_export.specs.Counts.{one_more}
use Rattle.usfm_export.specs.Writing.{TakesFront}
use Rattle.conflict_report.specs.Reports.{report}
use Rattle.conflict_report.specs.declared.fault.ReportFault.{ReportFault}
use Rattle.conflict_report.specs.declared.fault.ReportFault.TheVariants.{Memory, WriteFailed}

-- What an answer says of what the sink took: all of the report, the front of it whose length is
-- answered, or nothing where there was no memory.
abbrev pub AnswersReport : List Operation → Option (List ℕ) → Option (List ℕ)
    → Result (Unit {0}) ReportFault → Type 0
AnswersReport held before after (Ok done) = Appends before after (report held)
AnswersReport held before after (Err Memory) = after ≡ before
AnswersReport held before after (Err (WriteFailed gone)) =
    TakesFront before after (report held) 0 gone

-- the sink's failures after the call: one more exactly where the call answers that the writer
-- failed
abbrev pub sink_failures : Result (Unit {0}) ReportFault → ℕ → ℕ
sink_failures (Ok done) failures = failures
sink_failures (Err Memory) failures = failures
sink_failures (Err (WriteFailed gone)) failures = one_more failures
