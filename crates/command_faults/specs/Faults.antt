-- The faults of the layers as faults of a command.
use Rattle.usfm_ref.specs.declared.fault.RefFault.TheVariants as reference
use Rattle.usfm_token.specs.declared.fault.TokenFault.{TokenFault}
use Rattle.usfm_token.specs.declared.fault.TokenFault.TheVariants as token
use Rattle.verse_cut.specs.declared.fault.BookFault.{BookFault}
use Rattle.verse_cut.specs.declared.fault.BookFault.TheVariants as opening
use Rattle.sty_sheet.specs.declared.fault.SheetFault.{SheetFault}
use Rattle.sty_sheet.specs.declared.fault.SheetFault.TheVariants as sheet
use Rattle.versification.specs.declared.fault.VersificationFault.{VersificationFault}
use Rattle.versification.specs.declared.fault.VersificationFault.TheVariants as versification
use Rattle.concordance.specs.declared.fault.FindFault.{FindFault}
use Rattle.concordance.specs.declared.fault.FindFault.TheVariants as finding
use Rattle.conflict_answers.specs.declared.fault.AnswersFault.{AnswersFault}
use Rattle.conflict_answers.specs.declared.fault.AnswersFault.TheVariants as answers
use Rattle.bundle_codec.specs.declared.fault.SummaryFault.{SummaryFault}
use Rattle.bundle_codec.specs.declared.fault.SummaryFault.TheVariants as summing
use Rattle.bundle_codec.specs.declared.fault.BundleFault.{BundleFault}
use Rattle.bundle_codec.specs.declared.fault.BundleFault.TheVariants as bundle
use Rattle.bundle_codec.specs.declared.fault.WholeFault.{WholeFault}
use Rattle.bundle_codec.specs.declared.fault.WholeFault.TheVariants as whole
use Rattle.bundle_codec.specs.declared.fault.JoinFault.{JoinFault}
use Rattle.bundle_codec.specs.declared.fault.JoinFault.TheVariants as joining
use Rattle.replica_state.specs.declared.fault.ReceiveFault.{ReceiveFault}
use Rattle.replica_state.specs.declared.fault.ReceiveFault.TheVariants as receiving
use Rattle.conflict_settling.specs.declared.asked.SettleFault.{SettleFault}
use Rattle.conflict_settling.specs.declared.asked.SettleFault.TheVariants as settling
use Rattle.replica_state.specs.declared.fault.EditFault.{EditFault}
use Rattle.replica_state.specs.declared.fault.EditFault.TheVariants as edit
use Rattle.replica_state.specs.declared.fault.ImportFault.{ImportFault}
use Rattle.replica_state.specs.declared.fault.ImportFault.TheVariants as importing
use Rattle.replica_state.specs.declared.fault.SinceFault.{SinceFault}
use Rattle.replica_state.specs.declared.fault.SinceFault.TheVariants as since
use Rattle.usfm_export.specs.declared.fault.ExportFault.{ExportFault}
use Rattle.usfm_export.specs.declared.fault.ExportFault.TheVariants as writing
use Rattle.usfm_export.specs.declared.fault.TextFault.{TextFault}
use Rattle.usfm_export.specs.declared.fault.TextFault.TheVariants as giving
use Rattle.op_core.specs.declared.fault.IdFault.TheVariants as ids
use Rattle.project_file.specs.declared.fault.CreateFault.{CreateFault}
use Rattle.project_file.specs.declared.fault.CreateFault.TheVariants as creating
use Rattle.segment_history.specs.declared.fault.RestoreFault.{RestoreFault}
use Rattle.segment_history.specs.declared.fault.RestoreFault.TheVariants as restoring
use Rattle.project_file.specs.declared.fault.LoadFault.{LoadFault}
use Rattle.project_file.specs.declared.fault.LoadFault.TheVariants as loading
use Rattle.byte_source.specs.declared.reading.ReadFault.{ReadFault}
use Rattle.byte_source.specs.declared.reading.ReadFault.TheVariants as reading
use Rattle.command_faults.specs.declared.fault.Fault.{Fault}
use Rattle.command_faults.specs.declared.fault.Fault.TheVariants.{Memory, NotText, Reference, NoId}
use Rattle.command_faults.specs.declared.fault.Fault.TheVariants.{FieldBeforeMarker, EmptyMarker}
use Rattle.command_faults.specs.declared.fault.Fault.TheVariants.{BadVersification, BadAnswers}
use Rattle.command_faults.specs.declared.fault.Fault.TheVariants.{BadStyleType, Naming, Clash}
use Rattle.command_faults.specs.declared.fault.Fault.TheVariants.{Bundle, Trailing, BadSummary}
use Rattle.command_faults.specs.declared.fault.Fault.TheVariants.{BadSegment, NumbersUsedUp, NoBook}
use Rattle.command_faults.specs.declared.fault.Fault.TheVariants.{NotShown, LeftOut, WriteFailed, EmptyNeedle}
use Rattle.command_faults.specs.declared.fault.Fault.TheVariants.{BadProject, ReadFailed, TooLong}

-- the fault of a command whose bytes are no text
abbrev pub of_text : TokenFault → Fault
of_text (token.NotUtf8 valid) = NotText valid

-- the fault of a command whose file does not begin with a book
abbrev pub of_book : BookFault → Fault
of_book opening.NoId = NoId
of_book opening.BadBook = Reference reference.BadBook

-- the fault of a command whose bytes do not begin with a bundle
abbrev pub of_bundle : BundleFault → Fault
of_bundle bundle.Memory = Memory
of_bundle fault = Bundle fault

-- the fault of a command whose bytes are not one whole bundle
abbrev pub of_whole : WholeFault → Fault
of_whole (whole.Bundle fault) = of_bundle fault
of_whole whole.Trailing = Trailing

-- the fault of two bundles that are not joined
abbrev pub of_joining : JoinFault → Fault
of_joining joining.Memory = Memory
of_joining (joining.Bundle fault) = of_whole fault
of_joining (joining.Clash id) = Clash id

-- the fault of a bundle that is not received
abbrev pub of_receiving : ReceiveFault → Fault
of_receiving receiving.Memory = Memory
of_receiving (receiving.Clash id) = Clash id

-- the fault of a conflict that is not asked
abbrev pub of_settling : SettleFault → Fault
of_settling settling.Memory = Memory
of_settling settling.NoBook = NoBook

-- the fault of an edit that is refused
abbrev pub of_edit : EditFault → Fault
of_edit edit.Memory = Memory
of_edit edit.BadSegment = BadSegment
of_edit edit.NoBook = NoBook
of_edit (edit.NotShown id) = NotShown id
of_edit edit.NumbersUsedUp = NumbersUsedUp

-- the fault of an import that is refused
abbrev pub of_import : ImportFault → Fault
of_import importing.Memory = Memory
of_import (importing.BadFile fault) = of_book fault
of_import importing.NumbersUsedUp = NumbersUsedUp

-- the fault of an import since a base that is refused
abbrev pub of_since : SinceFault → Fault
of_since since.Memory = Memory
of_since (since.BadFile fault) = of_book fault
of_since (since.Clash id) = Clash id
of_since since.NumbersUsedUp = NumbersUsedUp

-- the fault of a command whose style sheet is refused
abbrev pub of_sheet : SheetFault → Fault
of_sheet sheet.Memory = Memory
of_sheet (sheet.FieldBeforeMarker line) = FieldBeforeMarker line
of_sheet (sheet.EmptyMarker line) = EmptyMarker line
of_sheet (sheet.BadStyleType line) = BadStyleType line

-- the fault of a command whose versification is refused
abbrev pub of_versification : VersificationFault → Fault
of_versification versification.Memory = Memory
of_versification (versification.BadLine line) = BadVersification line

-- the fault of a command whose file of answers is refused
abbrev pub of_answers : AnswersFault → Fault
of_answers answers.Memory = Memory
of_answers (answers.BadLine line) = BadAnswers line

-- the fault of a command whose summary is refused
abbrev pub of_summary : SummaryFault → Fault
of_summary summing.Memory = Memory
of_summary summing.BadSummary = BadSummary

-- the fault of a search that is refused
abbrev pub of_find : FindFault → Fault
of_find finding.Memory = Memory
of_find finding.EmptyNeedle = EmptyNeedle

-- the fault of a book that is not written
abbrev pub of_export : ExportFault → Fault
of_export writing.NoBook = NoBook
of_export (writing.WriteFailed gone) = WriteFailed gone

-- the fault of a book whose text is not given
abbrev pub of_book_text : TextFault → Fault
of_book_text giving.Memory = Memory
of_book_text giving.NoBook = NoBook

-- the fault of a text that cannot be had back
abbrev pub of_restoring : RestoreFault → Fault
of_restoring restoring.Memory = Memory
of_restoring (restoring.NotHeld id) = NotShown id
of_restoring (restoring.LeftOut id) = LeftOut id

-- the fault of a project's file that is not loaded
abbrev pub of_loading : LoadFault → Fault
of_loading loading.Memory = Memory
of_loading loading.BadProject = BadProject
of_loading (loading.Bundle fault) = of_whole fault

-- the fault of a project that is not made
abbrev pub of_creating : CreateFault → Fault
of_creating creating.Memory = Memory
of_creating creating.BadName = Naming ids.BadName

-- the fault of an input that is not read
abbrev pub of_reading : ReadFault → Fault
of_reading reading.Memory = Memory
of_reading reading.ReadFailed = ReadFailed
of_reading reading.TooLong = TooLong
