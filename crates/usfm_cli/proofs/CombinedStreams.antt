-- Streams that are not combined.
use Rattle.std.proofs.Common.{List, ℕ, Err, inl, ap}
use Rattle.command_faults.specs.declared.fault.Fault.{Fault}
use Rattle.command_faults.specs.declared.fault.Fault.TheVariants.{Memory, NotText, Reference, NoId, FieldBeforeMarker, EmptyMarker, BadStyleType, BadVersification, Naming, Clash, Bundle, Trailing, BadSummary, BadSeal, BadSegment, NumbersUsedUp, NoBook, NotShown, LeftOut, BadAnswers, WriteFailed, EmptyNeedle, BadProject, ReadFailed, TooLong, FileFailed, FileChanged, Emptied, Undone, Unlike, SettledEarly}
use Rattle.usfm_cli.specs.Combining.{bundle_or, RefusesCombining}
use Rattle.usfm_cli.specs.Streams.{UnionAnswers}

-- a stream whose bundles are refused is not combined
pub refused_stream : (input : List ℕ) (fault : Fault) → UnionAnswers input (Err fault) → RefusesCombining input fault
refused_stream input Memory u = inl u
refused_stream input (Clash id) u = ap bundle_or u
refused_stream input (Bundle fault) u = ap bundle_or u
refused_stream input (NotText valid) u = absurd u
refused_stream input (Reference fault) u = absurd u
refused_stream input NoId u = absurd u
refused_stream input (FieldBeforeMarker line) u = absurd u
refused_stream input (EmptyMarker line) u = absurd u
refused_stream input (BadStyleType line) u = absurd u
refused_stream input (BadVersification line) u = absurd u
refused_stream input (Naming fault) u = absurd u
refused_stream input Trailing u = absurd u
refused_stream input BadSummary u = absurd u
refused_stream input BadSeal u = absurd u
refused_stream input BadSegment u = absurd u
refused_stream input NumbersUsedUp u = absurd u
refused_stream input NoBook u = absurd u
refused_stream input (NotShown id) u = absurd u
refused_stream input (LeftOut id) u = absurd u
refused_stream input (BadAnswers line) u = absurd u
refused_stream input (WriteFailed gone) u = absurd u
refused_stream input EmptyNeedle u = absurd u
refused_stream input BadProject u = absurd u
refused_stream input ReadFailed u = absurd u
refused_stream input TooLong u = absurd u
refused_stream input FileFailed u = absurd u
refused_stream input FileChanged u = absurd u
refused_stream input (Emptied count) u = absurd u
refused_stream input (Undone count) u = absurd u
refused_stream input (Unlike count) u = absurd u
refused_stream input SettledEarly u = absurd u
