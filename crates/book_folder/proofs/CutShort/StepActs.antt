-- What the steps of a plan do, one group after another.
use Rattle.std.proofs.Common.{◌≡◌, ℕ, Bool, true, false, cond, List, [], ◌∷◌, ◌++◌, map, Option, None, Some, refl, ap, ◌∙◌, append_assoc}
use Rattle.std.specs.List.{AllByRecursion}
use Rattle.book_folder.specs.Disks.{Act, DiskParts, DropNew, FolderSynced, Move, OwnSynced, SetBase, SetNames, SetNext, acts_of, after, done}
use Rattle.book_folder.specs.Plans.{NewFileParts, RemoveNew, Settle, StepParts, SyncFolder, SyncOwn, WriteNew, own_puts, placed, placing, with_sync}
use Rattle.book_folder.proofs.CutShort.Fronts.{Certain}
use Rattle.book_folder.proofs.CutShort.Puts.{moves, written}
use Rattle.book_folder.proofs.CutShort.Settles.{dropped}

-- what is put beside the new files
abbrev pub base_acts : Option (List ℕ) → List Act
base_acts None = []
base_acts (Some bytes) = SetBase bytes ∷ []

abbrev pub names_acts : Option (List ℕ) → List Act
names_acts None = []
names_acts (Some bytes) = SetNames bytes ∷ []

-- what is certain once it is synced
pub dropped_certain : (books : List (List ℕ)) → AllByRecursion (Certain OwnSynced) (dropped books)
dropped_certain [] = tt
dropped_certain (book ∷ books) = (refl, dropped_certain books)

pub written_certain : (files : List NewFileParts) → AllByRecursion (Certain OwnSynced) (map written files)
written_certain [] = tt
written_certain (f ∷ files) = (refl, written_certain files)

module _ (stays : List ℕ → Bool) where
  pub moves_certain : (files : List NewFileParts) → AllByRecursion (Certain FolderSynced) (moves stays files)
  moves_certain [] = tt
  moves_certain (f ∷ files) = by (stays f.book) (moves_certain files)
    where
      by : (b : Bool) → AllByRecursion (Certain FolderSynced) (moves stays files)
          → AllByRecursion (Certain FolderSynced) (cond b [] (Move f.book f.name ∷ []) ++ moves stays files)
      by true rest = rest
      by false rest = (refl, rest)

  pub removal_acts : (books : List (List ℕ)) (d : DiskParts) (k : List StepParts)
      → acts_of stays d (map RemoveNew books ++ k) ≡ dropped books ++ acts_of stays (after d (dropped books)) k
  removal_acts [] d k = refl
  removal_acts (book ∷ books) d k = ap (λ (t : List Act). DropNew book ∷ t) (removal_acts books (done d (DropNew book)) k)

  pub write_acts : (files : List NewFileParts) (d : DiskParts) (k : List StepParts)
      → acts_of stays d (map WriteNew files ++ k) ≡ map written files ++ acts_of stays (after d (map written files)) k
  write_acts [] d k = refl
  write_acts (f ∷ files) d k = ap (λ (t : List Act). written f ∷ t) (write_acts files (done d (written f)) k)

  -- the new files, and their sync
  pub writes_acts : (f : NewFileParts) (files : List NewFileParts) (d : DiskParts) (k : List StepParts)
      → acts_of stays d (with_sync SyncOwn (map WriteNew (f ∷ files)) ++ k)
      ≡ map written (f ∷ files) ++ OwnSynced ∷ acts_of stays (after d (map written (f ∷ files))) k
  writes_acts f files d k =
      ap (acts_of stays d) (append_assoc (map WriteNew (f ∷ files)) (SyncOwn ∷ []) k) ∙ write_acts (f ∷ files) d (SyncOwn ∷ k)

  -- the base, the names and the next base, and their sync
  pub puts_acts : (base names : Option (List ℕ)) (next : List ℕ) (d : DiskParts) (k : List StepParts)
      → acts_of stays d (with_sync SyncOwn (own_puts (record { base = base; names = names; next = Some next })) ++ k)
      ≡ (base_acts base ++ names_acts names ++ SetNext next ∷ []) ++ OwnSynced
      ∷ acts_of stays (after d (base_acts base ++ names_acts names ++ SetNext next ∷ [])) k
  puts_acts None None next d k = refl
  puts_acts None (Some names) next d k = refl
  puts_acts (Some base) None next d k = refl
  puts_acts (Some base) (Some names) next d k = refl

  place_acts : (files : List NewFileParts) (d : DiskParts) (k : List StepParts)
      → acts_of stays d (map placing files ++ k) ≡ moves stays files ++ acts_of stays (after d (moves stays files)) k
  place_acts [] d k = refl
  place_acts (f ∷ files) d k = by (stays f.book) (λ e. place_acts files e k)
    where
      by : (b : Bool) → ((e : DiskParts) → acts_of stays e (map placing files ++ k)
          ≡ moves stays files ++ acts_of stays (after e (moves stays files)) k)
          → cond b [] (Move f.book f.name ∷ []) ++ acts_of stays (after d (cond b [] (Move f.book f.name ∷ []))) (map placing files ++ k)
          ≡ (cond b [] (Move f.book f.name ∷ []) ++ moves stays files)
          ++ acts_of stays (after d (cond b [] (Move f.book f.name ∷ []) ++ moves stays files)) k
      by true rest = rest d
      by false rest = ap (λ (t : List Act). Move f.book f.name ∷ t) (rest (done d (Move f.book f.name)))

  -- the new files in their places, the sync of the folder, and what is done to settle the base
  pub placed_acts : (f : NewFileParts) (files : List NewFileParts) (d : DiskParts)
      → acts_of stays d (placed (map placing (f ∷ files)))
      ≡ moves stays (f ∷ files) ++ FolderSynced ∷ acts_of stays (after d (moves stays (f ∷ files))) (Settle ∷ [])
  placed_acts f files d = place_acts (f ∷ files) d (SyncFolder ∷ Settle ∷ [])
