-- What comes into a project from a folder (this project's own rule): what its files were written
-- from, the bundles that are given, and what was changed in the files, in this order.
use Rattle.std.specs.Prelude.{◌≡◌, Vec, ℕ, suc, ◌-◌, nat_eq, Bool, true, false, not, List, [], ◌∷◌, ◌++◌, length, map, filter, Option, None, is_some, option_map, Result, Ok, Err, if◌then◌else◌}
use Rattle.op_core.specs.Ops.{Operation}
use Rattle.op_core.specs.Export.{has_book}
use Rattle.project_file.specs.Projects.{project}
use Rattle.replica_state.specs.States.{State}
use Rattle.book_folder.specs.Bases.{other_than}
use Rattle.book_folder.specs.Begun.{BegunParts, begun_with, judged, received_if_alike, replica_at}
use Rattle.book_folder.specs.Files.{FileParts}
use Rattle.book_folder.specs.Refusals.{◌>>=◌, Stepped}
use Rattle.book_folder.specs.Stale.{rebased}
use Rattle.book_folder.specs.Taking.{StoodParts, stood_view, taken_in}
use Rattle.book_folder.specs.Wanted.{SeenParts, WishParts}
use Rattle.book_folder.specs.declared.coming.CameIn.{CameIn}
use Rattle.book_folder.specs.declared.plan.Added.{Added}
use Rattle.book_folder.specs.declared.refusal.Place.TheVariants as places
use Rattle.book_folder.specs.declared.refusal.Refusal.{Refusal}
use Rattle.book_folder.specs.declared.refusal.Refusal.TheVariants.{Memory, Of}

-- ---- bundles

-- a replica after bundles were received, of which the first has this place, with how many
-- operations each brought, after those of the ones before them
abbrev pub bundles_from : Bool → ℕ → Stepped State (List ℕ) → List (List ℕ)
    → Result (Stepped State (List ℕ)) Refusal
bundles_from asked at r [] = Ok r
bundles_from asked at r (bytes ∷ later) =
    judged (places.Bundle at) bytes >>= λ ops.
    received_if_alike asked (places.Bundle at) r.after ops >>= λ next.
    bundles_from asked (suc at)
    (record { after = next.after; made = r.made ++ next.made ∷ [] }) later

-- a replica after bundles were received one after another, with how many operations each brought
abbrev pub bundles_begun : Bool → State → List (List ℕ) → Result (Stepped State (List ℕ)) Refusal
bundles_begun asked s bundles = bundles_from asked 0 (record { after = s; made = [] }) bundles

-- the older bases, of which the first has this place, after those before them
abbrev pub older_from : List ℕ → ℕ → List State → List (List ℕ) → Result (List State) Refusal
older_from name at before [] = Ok before
older_from name at before (bytes ∷ later) =
    replica_at name (places.Older at) bytes >>= λ s.
    older_from name (suc at) (before ++ s ∷ []) later

-- The bases from which files may have been written before the base: the older ones. Where a next base
-- stands, a sync was cut short that had perhaps put files which were written from that one, so that
-- the base is one of those before it.
abbrev pub earlier_bases : SeenParts → List (List ℕ)
earlier_bases seen = if is_some seen.next then seen.bases ++ seen.older else seen.older

-- ---- files that are taken in

-- the files of which it is known what they were written from, or those of which it is not
abbrev pub files_by : Bool → List Operation → List FileParts → List FileParts
files_by true base files = filter (λ f. has_book base f.book) files
files_by false base files = filter (λ f. not (has_book base f.book)) files

-- the files in the order in which they are taken in: first those of which it is known what they
-- were written from
abbrev pub in_turn : List Operation → List FileParts → List FileParts
in_turn base files = files_by true base files ++ files_by false base files

-- how many edits a file made that was changed
pub record AddedParts : Type 0 where
  pub book : List ℕ
  pub count : ℕ

-- how many edits a file made, as a contract sees it
abbrev pub added_view : Added → AddedParts
added_view a = record { book = a.book; count = a.count }

-- what is said of a file that made so many edits: nothing where it made none
abbrev pub added_by : List ℕ → ℕ → List AddedParts
added_by book count = if nat_eq count 0 then [] else record { book = book; count = count } ∷ []

-- a project after files were taken in, what they have beside their bases, and how many edits they
-- made
pub record AllTaken : Type 0 where
  pub after : State
  pub stood : List StoodParts
  pub added : List AddedParts

-- a project after files were taken in, by its parts
abbrev pub all_taken : State → List StoodParts → List AddedParts → AllTaken
all_taken after stood added = record { after = after; stood = stood; added = added }

-- before any file was taken in
abbrev pub none_taken : State → List StoodParts → AllTaken
none_taken s stood = all_taken s stood []

-- what there is after files were taken in one after another, each into what those before it made;
-- or the first refusal
abbrev pub taken_all : State → List State → WishParts → AllTaken → List FileParts
    → Result AllTaken Refusal
taken_all base older wishes t [] = Ok t
taken_all base older wishes t (f ∷ later) =
    taken_in t.after base older wishes t.stood f >>= λ next.
    taken_all base older wishes
    (all_taken next.after next.stood (t.added ++ added_by f.book next.count)) later

-- what is answered where all files are taken in, and the project and what they have beside their
-- bases are then so
abbrev pub AnswersAll : {A : Type 0} → Result AllTaken Refusal → State → List StoodParts
    → Result (Vec Added A) Refusal → Type 0
AnswersAll wanted after stood (Ok added) =
    wanted ≡ Ok (all_taken after stood (map added_view added.items))
AnswersAll wanted after stood (Err Memory) = Unit {0}
AnswersAll wanted after stood (Err (Of place fault)) = wanted ≡ Err (Of place fault)

-- ---- what came in

-- the project's bytes after the bases were received, where they brought something
abbrev pub recovered : SeenParts → BegunParts → Option (List ℕ)
recovered seen b =
    if nat_eq (length b.replica.held) b.held then None
    else other_than seen.project (project b.replica)

-- a base for whose files it was looked whether they are older, where that is asked for
abbrev pub rebased_if_stale : WishParts → BegunParts → List State → List FileParts
    → Result BegunParts Refusal
rebased_if_stale wishes b older files =
    if wishes.stale then rebased wishes.settled b older files else Ok b

-- a project into which all came in: its bytes after the bases were received, where they brought
-- something, and how many operations that is; what its files were written from; how many operations
-- each bundle brought, and how many edits each file made; and what the files have beside what they
-- were written from
pub record CameInParts : Type 0 where
  pub recovered : Option (List ℕ)
  pub new : ℕ
  pub base : State
  pub replica : State
  pub bundles : List ℕ
  pub added : List AddedParts
  pub stood : List StoodParts

-- a project into which all came in, as a contract sees it
abbrev pub came_view : CameIn → CameInParts
came_view c = record {
  recovered = option_map (λ b. b.items) c.recovered;
  new = c.new;
  base = c.base;
  replica = c.replica;
  bundles = c.bundles.items;
  added = map added_view c.added.items;
  stood = map stood_view c.stood.items;
}

-- a project into which all came in, by what there was after the bases, what the bundles brought,
-- and what there is after the files
abbrev pub all_came : SeenParts → BegunParts → List ℕ → AllTaken → CameInParts
all_came seen b bundles all = record {
  recovered = recovered seen b;
  new = length b.replica.held - b.held;
  base = b.base;
  replica = all.after;
  bundles = bundles;
  added = all.added;
  stood = all.stood;
}

-- the bundles come in, and then the files, in their turn
abbrev pub bundles_come_in : SeenParts → WishParts → List State → List FileParts → BegunParts
    → Result CameInParts Refusal
bundles_come_in seen wishes older turns b =
    bundles_begun wishes.joined b.replica seen.bundles >>= λ r.
    taken_all b.base older wishes (none_taken r.after []) turns >>= λ all.
    Ok (all_came seen b r.made all)

-- All that comes in, in this order: what the files were written from, the bundles, what was changed
-- in the files.
abbrev pub comes_in : SeenParts → WishParts → List FileParts → Result CameInParts Refusal
comes_in seen wishes files =
    begun_with seen wishes >>= λ begun.
    older_from begun.base.name 0 [] (earlier_bases seen) >>= λ older.
    rebased_if_stale wishes begun older files >>= λ b.
    bundles_come_in seen wishes older (in_turn b.base.held files) b
