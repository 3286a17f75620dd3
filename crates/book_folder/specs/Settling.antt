-- How the base is settled once new files were put in their places, or were left (this project's own
-- rule).
use Rattle.std.specs.Prelude.{ℕ, Bool, false, List, [], ◌∷◌, ◌++◌, map, Option, None, Some, option_map, Result, Ok, if◌then◌else◌}
use Rattle.usfm_ref.specs.Books.{same_bytes}
use Rattle.book_folder.specs.Begun.{settled}
use Rattle.book_folder.specs.OlderBases.{moved_older}
use Rattle.book_folder.specs.Refusals.{◌>>=◌}
use Rattle.book_folder.specs.declared.older_bases.MovedBase.{MovedBase}
use Rattle.book_folder.specs.declared.refusal.Refusal.{Refusal}
use Rattle.book_folder.specs.declared.settling.SettlingStep.{SettlingStep}
use Rattle.book_folder.specs.declared.settling.SettlingStep.TheVariants as steps
use Rattle.book_folder.specs.declared.settling.Unsettled.{Unsettled}

-- a step by which a base is settled
pub data SettlingParts : Type 0 where
  PutOlder : (at : ℕ) (bytes : List ℕ) → SettlingParts
  PutBase : (bytes : List ℕ) → SettlingParts
  SyncOwn : SettlingParts
  RemoveNext : SettlingParts
  RemoveNew : (book : List ℕ) → SettlingParts

-- an older base that becomes another one, with its place, as a contract sees it
abbrev pub moved_view : MovedBase → ℕ × List ℕ
moved_view moved = (moved.at, moved.bytes.items)

-- a step by which a base is settled, as a contract sees it
abbrev pub settling_view : SettlingStep → SettlingParts
settling_view (steps.PutOlder moved) = PutOlder moved.at moved.bytes.items
settling_view (steps.PutBase bytes) = PutBase bytes.items
settling_view steps.SyncOwn = SyncOwn
settling_view steps.RemoveNext = RemoveNext
settling_view (steps.RemoveNew book) = RemoveNew book

-- what stands in the program's folder when a base is settled: the base, unless those of an older
-- version stand for it; the bundles that make up the base; the older bases, the newest first; the
-- next one; and the books of which a new file was left
pub record UnsettledParts : Type 0 where
  pub base : Option (List ℕ)
  pub bases : List (List ℕ)
  pub older : List (List ℕ)
  pub next : Option (List ℕ)
  pub unplaced : List (List ℕ)

-- what stands in the program's folder, as a contract sees it
abbrev pub unsettled_view : Unsettled → UnsettledParts
unsettled_view u = record {
  base = option_map (λ b. b.now) u.base;
  bases = map (λ b. b.items) u.bases.now;
  older = map (λ b. b.items) u.older.now;
  next = option_map (λ b. b.now) u.next;
  unplaced = u.unplaced.now;
}

-- whether there are bytes, and they are these
abbrev pub are_bytes : Option (List ℕ) → List ℕ → Bool
are_bytes None bytes = false
are_bytes (Some there) bytes = same_bytes there bytes

-- the step by which an older base is put in its place
abbrev pub older_put : ℕ × List ℕ → SettlingParts
older_put moved = PutOlder moved.0 moved.1

-- the steps by which older bases move on before a base is put in the place of another one
abbrev pub older_puts : Option (List ℕ) → List (List ℕ) → List ℕ → List SettlingParts
older_puts None older bytes = []
older_puts (Some base) older bytes = map older_put (moved_older base bytes older)

-- the steps by which a base is put where another one is, or none: before that, older ones move on
abbrev pub base_puts : Option (List ℕ) → List (List ℕ) → List ℕ → List SettlingParts
base_puts base older bytes =
    if are_bytes base bytes then []
    else older_puts base older bytes ++ PutBase bytes ∷ SyncOwn ∷ []

-- The steps by which what the files were written from is settled: the base is put first, then the
-- next one is removed, which tells of the new files that were left, and then these are.
abbrev pub settling_steps : UnsettledParts → Option (List ℕ) → Result (List SettlingParts) Refusal
settling_steps u None = Ok (map RemoveNew u.unplaced)
settling_steps u (Some next) =
    settled u.bases next u.unplaced >>= λ bytes.
    Ok (base_puts u.base u.older bytes ++ RemoveNext ∷ SyncOwn ∷ map RemoveNew u.unplaced)
