use Rattle.std.proofs.Common.{◌≡◌, ◌==◌, ℕ, true, List, [], ◌∷◌, refl}
use Rattle.std.specs.List.{list_any}
use Rattle.usfm_ref.specs.declared.fault.RefFault.TheVariants.{BadBook, BadRef}
use Rattle.op_core.specs.declared.fault.IdFault.TheVariants.{BadName, BadOpId}
use Rattle.bundle_codec.specs.declared.fault.BundleFault.TheVariants as bundle
use Rattle.command_faults.specs.Lines.{fault_number}
use Rattle.command_faults.specs.declared.fault.Fault.{Fault}
use Rattle.command_faults.specs.declared.fault.Fault.TheVariants.{Memory, NotText, Reference, NoId, FieldBeforeMarker, EmptyMarker, BadStyleType, BadVersification, BadAnswers}
use Rattle.command_faults.specs.declared.fault.Fault.TheVariants.{Naming, Clash, Bundle, Trailing, BadSummary, BadSeal, BadSegment, NumbersUsedUp, NoBook}
use Rattle.command_faults.specs.declared.fault.Fault.TheVariants.{NotShown, LeftOut, WriteFailed, EmptyNeedle, BadProject, ReadFailed, TooLong}
use Rattle.command_faults.specs.declared.fault.Fault.TheVariants.{FileFailed, FileChanged, Emptied, Undone, Unlike, SettledEarly}
use Rattle.command_faults.proofs.listing.all_faults.Goals as goal

-- the numbers of the faults that are listed, among which each fault has its own
abbrev numbers : List ℕ
numbers =
    1 ∷ 10 ∷ 20 ∷ 21 ∷ 30 ∷ 40 ∷ 41 ∷ 42 ∷ 43 ∷ 50 ∷ 51 ∷ 52 ∷ 60 ∷ 61 ∷ 62 ∷ 63 ∷ 64 ∷ 65 ∷ 66 ∷ 67 ∷
    68 ∷ 69 ∷ 70 ∷ 71 ∷ 72 ∷ 80 ∷ 81 ∷ 82 ∷ 83 ∷ 84 ∷ 85 ∷ 90 ∷ 100 ∷ 110 ∷ 120 ∷ 121 ∷ 130 ∷ 131 ∷ 132 ∷ 133 ∷
    134 ∷ 135 ∷ []

each : (fault : Fault) → list_any (λ n. n == fault_number fault) numbers ≡ true
each Memory = refl
each (NotText valid) = refl
each (Reference BadBook) = refl
each (Reference BadRef) = refl
each NoId = refl
each (FieldBeforeMarker line) = refl
each (EmptyMarker line) = refl
each (BadStyleType line) = refl
each (BadVersification line) = refl
each (Naming BadName) = refl
each (Naming BadOpId) = refl
each (Clash id) = refl
each (Bundle bundle.Memory) = refl
each (Bundle bundle.Magic) = refl
each (Bundle bundle.Truncated) = refl
each (Bundle (bundle.NotRising at)) = refl
each (Bundle (bundle.BadId at)) = refl
each (Bundle (bundle.BadKey at)) = refl
each (Bundle (bundle.BadReplaced at)) = refl
each (Bundle (bundle.BadTag at)) = refl
each (Bundle (bundle.NotUtf8 at)) = refl
each (Bundle (bundle.BadText at)) = refl
each (Bundle (bundle.Unsupported at)) = refl
each Trailing = refl
each BadSummary = refl
each BadSeal = refl
each BadSegment = refl
each NumbersUsedUp = refl
each NoBook = refl
each (NotShown id) = refl
each (LeftOut id) = refl
each (BadAnswers line) = refl
each (WriteFailed gone) = refl
each EmptyNeedle = refl
each BadProject = refl
each ReadFailed = refl
each TooLong = refl
each FileFailed = refl
each FileChanged = refl
each (Emptied count) = refl
each (Undone count) = refl
each (Unlike count) = refl
each SettledEarly = refl

pub returns : goal.returns
returns c = record { in_order = refl; each = each }
