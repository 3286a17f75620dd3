-- Files that are taken in, in turn.
use Rattle.std.proofs.Common.{◌≡◌, ◌++◌, List, [], ◌∷◌, Result, Ok, Err, refl}
use Rattle.replica_state.specs.States.{State}
use Rattle.book_folder.specs.Files.{FileParts}
use Rattle.book_folder.specs.Coming.{AllTaken, taken_all, all_taken, added_by}
use Rattle.book_folder.specs.Refusals.{◌>>=◌}
use Rattle.book_folder.specs.Taking.{Taken, taken_in}
use Rattle.book_folder.specs.Wanted.{WishParts}
use Rattle.book_folder.specs.declared.refusal.Refusal.{Refusal}

-- files after others
pub taken_all_append : (base : State) (older : List State) (wishes : WishParts) (t : AllTaken) (fs gs : List FileParts)
    → taken_all base older wishes t (fs ++ gs)
    ≡ (taken_all base older wishes t fs >>= λ next. taken_all base older wishes next gs)
taken_all_append base older wishes t [] gs = refl
taken_all_append base older wishes t (f ∷ fs) gs =
    by (taken_in t.after base older wishes t.stood f)
    (λ next. taken_all_append base older wishes (all_taken next.after next.stood (t.added ++ added_by f.book next.count)) fs gs)
  where
    now : Taken → AllTaken
    now next = all_taken next.after next.stood (t.added ++ added_by f.book next.count)

    by : (r : Result Taken Refusal)
        → ((next : Taken) → taken_all base older wishes (now next) (fs ++ gs)
        ≡ (taken_all base older wishes (now next) fs >>= λ n. taken_all base older wishes n gs))
        → (r >>= λ next. taken_all base older wishes (now next) (fs ++ gs))
        ≡ ((r >>= λ next. taken_all base older wishes (now next) fs) >>= λ next. taken_all base older wishes next gs)
    by (Ok next) later = later next
    by (Err refusal) later = refl
