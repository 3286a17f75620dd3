-- The line that reports a fault (this project's own rule): `fault`, the fault's number, its
-- details, each after one space, and a line feed.
use Rattle.std.specs.Prelude.{ℕ, List, [], ◌∷◌, ◌++◌, codes}
use Rattle.std.specs.List.{flat_map}
use Rattle.std.specs.Fmt.{decimal}
use Rattle.usfm_ref.specs.declared.fault.RefFault.TheVariants.{BadBook, BadRef}
use Rattle.op_core.specs.declared.fault.IdFault.TheVariants.{BadName, BadOpId}
use Rattle.bundle_codec.specs.declared.fault.BundleFault.{BundleFault}
use Rattle.bundle_codec.specs.declared.fault.BundleFault.TheVariants as bundle
use Rattle.bundle_codec.specs.declared.fault.BundleFault.TheVariants.{Magic, Truncated, NotRising}
use Rattle.bundle_codec.specs.declared.fault.BundleFault.TheVariants.{BadId, BadKey, BadReplaced}
use Rattle.bundle_codec.specs.declared.fault.BundleFault.TheVariants.{BadTag, NotUtf8, BadText}
use Rattle.bundle_codec.specs.declared.fault.BundleFault.TheVariants.{Unsupported}
use Rattle.command_faults.specs.declared.fault.Fault.{Fault}
use Rattle.command_faults.specs.declared.fault.Fault.TheVariants.{Memory, NotText, Reference, NoId}
use Rattle.command_faults.specs.declared.fault.Fault.TheVariants.{FieldBeforeMarker, EmptyMarker}
use Rattle.command_faults.specs.declared.fault.Fault.TheVariants.{BadVersification, BadAnswers}
use Rattle.command_faults.specs.declared.fault.Fault.TheVariants.{BadStyleType, Naming, Clash, Bundle}
use Rattle.command_faults.specs.declared.fault.Fault.TheVariants.{Trailing, BadSummary, BadSeal, BadSegment}
use Rattle.command_faults.specs.declared.fault.Fault.TheVariants.{NumbersUsedUp, NoBook, NotShown, LeftOut}
use Rattle.command_faults.specs.declared.fault.Fault.TheVariants.{WriteFailed, EmptyNeedle, BadProject}
use Rattle.command_faults.specs.declared.fault.Fault.TheVariants.{ReadFailed, TooLong, FileFailed}
use Rattle.command_faults.specs.declared.fault.Fault.TheVariants.{FileChanged, Emptied, Undone}
use Rattle.command_faults.specs.declared.fault.Fault.TheVariants.{Unlike, SettledEarly}

-- the number of a fault of a bundle
abbrev pub bundle_number : BundleFault → ℕ
bundle_number bundle.Memory = 1
bundle_number Magic = 60
bundle_number Truncated = 61
bundle_number (NotRising at) = 62
bundle_number (BadId at) = 63
bundle_number (BadKey at) = 64
bundle_number (BadReplaced at) = 65
bundle_number (BadTag at) = 66
bundle_number (NotUtf8 at) = 67
bundle_number (BadText at) = 68
bundle_number (Unsupported at) = 69

-- the details of a fault of a bundle: the place of the operation, counted from 1, where it has one;
-- 0 stands for the whole bundle
abbrev pub bundle_details : BundleFault → List (List ℕ)
bundle_details bundle.Memory = []
bundle_details Magic = []
bundle_details Truncated = []
bundle_details (NotRising at) = decimal at ∷ []
bundle_details (BadId at) = decimal at ∷ []
bundle_details (BadKey at) = decimal at ∷ []
bundle_details (BadReplaced at) = decimal at ∷ []
bundle_details (BadTag at) = decimal at ∷ []
bundle_details (NotUtf8 at) = decimal at ∷ []
bundle_details (BadText at) = decimal at ∷ []
bundle_details (Unsupported at) = decimal at ∷ []

-- the number of a fault
abbrev pub fault_number : Fault → ℕ
fault_number Memory = 1
fault_number (NotText valid) = 10
fault_number (Reference BadBook) = 20
fault_number (Reference BadRef) = 21
fault_number NoId = 30
fault_number (FieldBeforeMarker line) = 40
fault_number (EmptyMarker line) = 41
fault_number (BadStyleType line) = 42
fault_number (BadVersification line) = 43
fault_number (Naming BadName) = 50
fault_number (Clash id) = 51
fault_number (Naming BadOpId) = 52
fault_number (Bundle fault) = bundle_number fault
fault_number Trailing = 70
fault_number BadSummary = 71
fault_number BadSeal = 72
fault_number BadSegment = 80
fault_number NumbersUsedUp = 81
fault_number NoBook = 82
fault_number (NotShown id) = 83
fault_number (LeftOut id) = 84
fault_number (BadAnswers line) = 85
fault_number (WriteFailed gone) = 90
fault_number EmptyNeedle = 100
fault_number BadProject = 110
fault_number ReadFailed = 120
fault_number TooLong = 121
fault_number FileFailed = 130
fault_number FileChanged = 131
fault_number (Emptied count) = 132
fault_number (Undone count) = 133
fault_number (Unlike count) = 134
fault_number SettledEarly = 135

-- the details of a fault: an id by its number and its name; a count of bytes or segments, a line or
-- the place of an operation in decimal
abbrev pub fault_details : Fault → List (List ℕ)
fault_details (NotText valid) = decimal valid ∷ []
fault_details (FieldBeforeMarker line) = decimal line ∷ []
fault_details (EmptyMarker line) = decimal line ∷ []
fault_details (BadStyleType line) = decimal line ∷ []
fault_details (BadVersification line) = decimal line ∷ []
fault_details (BadAnswers line) = decimal line ∷ []
fault_details (Clash id) = decimal id.number ∷ id.name ∷ []
fault_details (NotShown id) = decimal id.number ∷ id.name ∷ []
fault_details (LeftOut id) = decimal id.number ∷ id.name ∷ []
fault_details (Bundle fault) = bundle_details fault
fault_details (WriteFailed gone) = decimal gone ∷ []
fault_details (Emptied count) = decimal count ∷ []
fault_details (Undone count) = decimal count ∷ []
fault_details (Unlike count) = decimal count ∷ []
fault_details other = []

-- the line of a fault: `fault`, its number, each detail after one space, and a line feed
abbrev pub fault_text : Fault → List ℕ
fault_text fault =
    codes "fault " ++ decimal (fault_number fault)
    ++ flat_map (λ detail. 32 ∷ detail) (fault_details fault) ++ 10 ∷ []
