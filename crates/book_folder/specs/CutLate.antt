-- A law of a sync that is cut short once the project has all that came in (this project's own rule):
-- a sync of what stands then brings nothing in.
use Rattle.std.specs.Prelude.{◌≡◌, ◌⊎◌, ◌<◌, ◌^◌, ℕ, true, false, List, [], ◌∷◌, map, length, None, Some, Ok}
use Rattle.std.specs.List.{AllByRecursion}
use Rattle.op_core.specs.Ops.{Operation}
use Rattle.op_core.specs.Sets.{IsOpSet, clash, join}
use Rattle.bundle_codec.specs.Joining.{whole_at}
use Rattle.bundle_codec.specs.Reading.{AreBytes}
use Rattle.bundle_codec.specs.Spelling.{bundle}
use Rattle.project_file.specs.Projects.{project_at}
use Rattle.replica_state.specs.States.{State}
use Rattle.book_folder.specs.Bases.{next_base, shown_in_files}
use Rattle.book_folder.specs.Begun.{settled_base}
use Rattle.book_folder.specs.CameIn.{IsReceived}
use Rattle.book_folder.specs.Coming.{CameInParts, comes_in, earlier_bases, older_from}
use Rattle.book_folder.specs.Files.{FileParts, is_one_of}
use Rattle.book_folder.specs.FolderLaws.{IsSyncedFile}
use Rattle.book_folder.specs.Plans.{headless}
use Rattle.book_folder.specs.Taking.{taken_in}
use Rattle.book_folder.specs.Wanted.{SeenParts, WishParts}

-- A book's file, where a sync was cut short while files were put: it was put, and is as a sync leaves
-- it; or its new file waits, and by the base that was put first nothing comes in of it.
abbrev pub IsPutOrWaits : List (List ℕ) → State → List State → WishParts → List Operation
    → FileParts → Type 0
IsPutOrWaits unplaced s older wishes first f =
    (is_one_of unplaced f.book ≡ false) × IsSyncedFile s.held f
    ⊎ (is_one_of unplaced f.book ≡ true)
    × (taken_in s (record { name = s.name; held = first }) older wishes [] f
    ≡ Ok (record { after = s; stood = []; count = 0 }))

-- A project and its folder where a sync was cut short once the project had all that came in: the
-- base that was put first and the next one stand there, and the base can be settled; the project
-- holds what the first one and the bundles have; and each file was put, or waits.
pub record IsCutLate (seen : SeenParts) (wishes : WishParts) (files : List FileParts)
    (older : List State) (s : State) (first mixed : List Operation) : Type 0 where
  pub project : project_at seen.project ≡ Ok s
  pub bases : seen.bases ≡ bundle first ∷ []
  pub next : seen.next ≡ Some (next_base (headless s.held) s.held)
  pub set : IsOpSet first
  pub read : whole_at (bundle first) ≡ Ok first
  pub agrees : clash s.held first ≡ None
  pub held : join s.held first ≡ s.held
  pub bytes : List ℕ
  pub settled :
      settled_base seen.unplaced first (shown_in_files (headless s.held) s.held) ≡ Ok bytes
  pub again : whole_at bytes ≡ Ok mixed
  pub bundles : AllByRecursion (IsReceived s) seen.bundles
  pub old : older_from s.name 0 [] (earlier_bases seen) ≡ Ok older
  pub each : AllByRecursion (IsPutOrWaits seen.unplaced s older wishes first) files

-- what comes in then: nothing
abbrev pub nothing_more : SeenParts → State → List Operation → CameInParts
nothing_more seen s mixed = record {
  recovered = None;
  new = 0;
  base = record { name = s.name; held = mixed };
  replica = s;
  bundles = map (λ bytes. 0) seen.bundles;
  added = [];
  stood = [];
}

-- Cut short late, a sync has nothing more to take in: of what stands once the project had all that
-- came in, and of the same bundles, nothing comes in, and the project stays. So the exports are the
-- same, the report is, and so is each text that a file is to get.
abbrev pub CutLateNothingComesIn : Type 0
CutLateNothingComesIn =
    (seen : SeenParts) (wishes : WishParts) (files : List FileParts) (older : List State)
    (s : State) (first mixed : List Operation) →
    AreBytes seen.project → length (bundle first) < 2 ^ 64 →
    length (next_base (headless s.held) s.held) < 2 ^ 64 →
    wishes.settled ≡ [] → wishes.stale ≡ false →
    IsCutLate seen wishes files older s first mixed →
    comes_in seen wishes files ≡ Ok (nothing_more seen s mixed)
