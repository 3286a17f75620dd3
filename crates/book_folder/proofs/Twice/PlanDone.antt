-- What the steps of a plan leave, once each was done and no file was left.
use Rattle.std.proofs.Common.{◌≡◌, ℕ, List, [], ◌∷◌, ◌++◌, Option, None, Some, Result, Ok, sym, ap, subst, ◌∙◌}
use Rattle.project_file.specs.Projects.{project}
use Rattle.book_folder.specs.Bases.{next_base, other_than}
use Rattle.book_folder.specs.Begun.{settled}
use Rattle.book_folder.specs.Coming.{CameInParts}
use Rattle.book_folder.specs.CutShort.{IsPlan, PutParts, put_by}
use Rattle.book_folder.specs.Disks.{DiskParts, IsRead}
use Rattle.book_folder.specs.DoneTwice.{all_done}
use Rattle.book_folder.specs.Plans.{NewFileParts, OwnParts, PlanParts, StepParts, base_put, bytes_or, headless, plan_steps, recovery, told_of}
use Rattle.book_folder.specs.Refusals.{◌>>=◌}
use Rattle.book_folder.specs.Wanted.{SeenParts, WishParts}
use Rattle.book_folder.specs.declared.refusal.Refusal.{Refusal}
use Rattle.book_folder.proofs.CutShort.CutLaws.{base_first, project_put, steps_of}
use Rattle.book_folder.proofs.CutShort.OwnBooks.{own_books}
use Rattle.book_folder.proofs.CutShort.Recovered.{BaseIsFirst}
use Rattle.book_folder.proofs.Twice.AllDone.{IsAllDone, Settles, nothing_made_done, some_made_done}

-- what the base is settled to at the end, where a file was put
abbrev pub SettlesAtLast : List NewFileParts → PutParts → Type 0
SettlesAtLast [] put = Unit {0}
SettlesAtLast (f ∷ later) put = settled (put.base ∷ []) put.next [] ≡ Ok put.next

pub plan_done : (seen : SeenParts) (wishes : WishParts) (c : CameInParts) (made : List NewFileParts) (base : List ℕ) (plan : PlanParts)
    (d : DiskParts) → IsPlan seen wishes c made base plan → IsRead seen d → Settles d → SettlesAtLast made (put_by seen.project c base)
    → IsAllDone d (put_by seen.project c base) made (all_done d plan.steps)
plan_done seen wishes c [] base plan d is read settles last =
    subst (λ (steps : List StepParts). IsAllDone d (put_by seen.project c base) [] (all_done d steps))
    (ap (λ (n : Option (List ℕ)). recovery c.recovered n seen.unplaced ++ plan_steps [] own bytes) (sym read.next)
    ∙ ap steps_of is.planned)
    (nothing_made_done d (put_by seen.project c base) (sym first) settles seen.unplaced read.unplaced c.recovered own.base own.names bytes
    (subst (λ (b : List ℕ). BaseIsFirst d b (base_put seen.bases seen.next next)) first (base_first seen d read next))
    (project_put seen d read c.recovered (project c.replica)))
  where
    next : List ℕ
    next = next_base (headless c.replica.held) c.replica.held

    bytes : Option (List ℕ)
    bytes = other_than (bytes_or seen.project c.recovered) (project c.replica)

    own : OwnParts
    own = record { base = base_put seen.bases seen.next next; names = is.names; next = None }

    first : next ≡ base
    first = let e = is.first in cc e
plan_done seen wishes c (one ∷ others) base plan d is read settles last =
    subst (λ (steps : List StepParts). IsAllDone d (put_by seen.project c base) (one ∷ others) (all_done d steps))
    (ap (λ (n : Option (List ℕ)). recovery c.recovered n seen.unplaced ++ plan_steps (one ∷ others) own bytes) (sym read.next) ∙ same)
    (some_made_done d (put_by seen.project c base) one others
    (own_books seen c.replica.held is.files is.form (one ∷ others) is.new) last settles seen.unplaced read.unplaced c.recovered own.base
    own.names bytes (base_first seen d read base) (project_put seen d read c.recovered (project c.replica)))
  where
    bytes : Option (List ℕ)
    bytes = other_than (bytes_or seen.project c.recovered) (project c.replica)

    beside : List ℕ → OwnParts
    beside b = record {
      base = base_put seen.bases seen.next b;
      names = is.names;
      next = Some (next_base (headless c.replica.held) c.replica.held);
    }

    own : OwnParts
    own = beside base

    planned : Result OwnParts Refusal → Result PlanParts Refusal
    planned r = r >>= λ o. Ok (record {
      steps = recovery c.recovered seen.next seen.unplaced ++ plan_steps (one ∷ others) o bytes;
      told = told_of c;
    })

    same : recovery c.recovered seen.next seen.unplaced ++ plan_steps (one ∷ others) own bytes ≡ plan.steps
    same = sym (ap (λ r. steps_of (planned (r >>= λ b. Ok (beside b)))) is.first) ∙ ap steps_of is.planned
