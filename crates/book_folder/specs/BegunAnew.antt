-- Whether a sync that was cut short is begun anew (this project's own rule).
use Rattle.std.specs.Prelude.{ℕ, suc, Bool, true, false, not, List, [], ◌∷◌, Option, None, Some, Result, Ok, if◌then◌else◌}
use Rattle.std.specs.List.{list_any}
use Rattle.op_core.specs.Ops.{Operation, agree}
use Rattle.op_core.specs.Sets.{get}
use Rattle.project_file.specs.Projects.{project_at}
use Rattle.book_folder.specs.Begun.{judged, project_or}
use Rattle.book_folder.specs.Refusals.{◌>>=◌}
use Rattle.book_folder.specs.Wanted.{SeenParts}
use Rattle.book_folder.specs.declared.refusal.Place.TheVariants as places
use Rattle.book_folder.specs.declared.refusal.Refusal.{Refusal}

-- whether an operation is held that agrees with one, of what is held under its id
abbrev pub agrees_if : Option Operation → Operation → Bool
agrees_if None o = false
agrees_if (Some held) o = agree held o

-- whether a set has an operation, or one of its id that agrees with it
abbrev pub has : List Operation → Operation → Bool
has held o = agrees_if (get held o.id) o

-- whether a set lacks one of some operations
abbrev pub lacks : List Operation → List Operation → Bool
lacks held ops = list_any (λ o. not (has held o)) ops

-- whether a set lacks an operation of the next base, if there is one
abbrev pub lacks_next : List Operation → Option (List ℕ) → Result Bool Refusal
lacks_next held None = Ok false
lacks_next held (Some next) = judged places.Next next >>= λ ops. Ok (lacks held ops)

-- whether a set lacks an operation of the bases, of which the first has this place, or of the next
-- one; or the first refusal
abbrev pub lacks_from : List Operation → ℕ → List (List ℕ) → Option (List ℕ) → Result Bool Refusal
lacks_from held at [] next = lacks_next held next
lacks_from held at (bytes ∷ later) next =
    judged (places.Base at) bytes >>= λ ops.
    if lacks held ops then Ok true else lacks_from held (suc at) later next

-- whether the project lacks an operation of what its files were written from
abbrev pub lacks_base : SeenParts → Result Bool Refusal
lacks_base seen =
    project_or (project_at seen.project) >>= λ s. lacks_from s.held 0 seen.bases seen.next
