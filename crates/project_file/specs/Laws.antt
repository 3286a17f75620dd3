-- Laws of project files.
use Rattle.std.specs.Prelude.{◌≡◌, ◌<◌, ◌^◌, ℕ, List, length, Ok}
use Rattle.bundle_codec.specs.Reading.{AreBytes}
use Rattle.replica_state.specs.States.{State, IsState}
use Rattle.project_file.specs.Projects.{project, project_at}

-- what is saved is loaded as it was
abbrev pub SavedIsLoaded : Type 0
SavedIsLoaded =
    (s : State) → IsState s → length (project s) < 2 ^ 64 → project_at (project s) ≡ Ok s

-- what was loaded is saved as the same bytes
abbrev pub LoadedIsSaved : Type 0
LoadedIsSaved = (bytes : List ℕ) (s : State) → AreBytes bytes → project_at bytes ≡ Ok s
    → IsState s × (project s ≡ bytes)

-- the project files of two replicas that differ in their names or sets differ
abbrev pub OneReplica : Type 0
OneReplica = (s t : State) → IsState s → IsState t → length (project s) < 2 ^ 64
    → project s ≡ project t → s ≡ t
