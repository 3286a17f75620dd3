-- What is known of a refusal beside its fault (this project's own rule).
use Rattle.std.specs.Prelude.{◌≡◌, ◌⊎◌, ℕ, List}
use Rattle.project_file.specs.Answers.{TakesMemoryAfter}
use Rattle.project_file.specs.Projects.{front_at}
use Rattle.command_faults.specs.declared.fault.Fault.{Fault}
use Rattle.command_faults.specs.declared.fault.Fault.TheVariants.{NotText, Reference, NoId, FieldBeforeMarker}
use Rattle.command_faults.specs.declared.fault.Fault.TheVariants.{BadVersification, BadAnswers}
use Rattle.command_faults.specs.declared.fault.Fault.TheVariants.{EmptyMarker, BadStyleType, Clash, Bundle}
use Rattle.command_faults.specs.declared.fault.Fault.TheVariants.{Trailing, BadSummary, BadSeal}
use Rattle.command_faults.specs.declared.circumstances.Input.{Input}
use Rattle.command_faults.specs.declared.circumstances.Input.TheVariants.{Project, Given, Neither}

-- the input that a command is refused for whose project is whole: the other one for a fault of
-- bytes
abbrev pub input_of : Fault → Input
input_of (NotText valid) = Given
input_of (Reference fault) = Given
input_of NoId = Given
input_of (FieldBeforeMarker line) = Given
input_of (EmptyMarker line) = Given
input_of (BadStyleType line) = Given
input_of (BadVersification line) = Given
input_of (BadAnswers line) = Given
input_of (Clash id) = Given
input_of (Bundle fault) = Given
input_of Trailing = Given
input_of BadSummary = Given
input_of BadSeal = Given
input_of other = Neither

-- The project is named where the bytes are none, or damaged; or, where memory is taken to judge the
-- bundle in them, what is named of a whole project.
abbrev pub NamesProject : List ℕ → Fault → Input → Type 0
NamesProject bytes fault named =
    (named ≡ Project) ⊎ ((named ≡ input_of fault) × TakesMemoryAfter (front_at bytes))
