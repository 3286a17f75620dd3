-- Cut short before it put a base, a sync is done again.
use Rattle.std.proofs.Common.{◌≡◌, ℕ, List, ◌++◌, map, Option, None, Result, Ok, Err, refl, sym, ap, subst, ◌∙◌}
use Rattle.project_file.specs.Projects.{project}
use Rattle.book_folder.specs.Bases.{other_than}
use Rattle.book_folder.specs.Coming.{CameInParts, comes_in}
use Rattle.book_folder.specs.CutShort.{CutEarlyIsDoneAgain, IsPlanAgain}
use Rattle.book_folder.specs.Files.{FileParts, clear_files}
use Rattle.book_folder.specs.Naming.{FormParts, form_of, other_names}
use Rattle.book_folder.specs.Plans.{NewFileParts, OwnParts, PlanParts, RemoveNew, ReplaceProject, StepParts, bytes_or, new_files, new_name_of, own_parts, plan_of, plan_steps, planned, step_if, told_of}
use Rattle.book_folder.specs.Refusals.{◌>>=◌}
use Rattle.book_folder.specs.Wanted.{SeenParts, WishParts}
use Rattle.book_folder.specs.declared.refusal.Refusal.{Refusal}

-- a plan's parts
module _ (seen : SeenParts) (wishes : WishParts) where
  -- what was read, with new files in the program's folder, and no next base
  abbrev with_books : List (List ℕ) → SeenParts
  with_books books = record seen { next = None; unplaced = books }

  abbrev steps_with : CameInParts → List NewFileParts → OwnParts → List (List ℕ) → List StepParts
  steps_with c made own books =
      (step_if ReplaceProject c.recovered ++ map RemoveNew books)
      ++ plan_steps made own (other_than (bytes_or seen.project c.recovered) (project c.replica))

  abbrev plan_with : CameInParts → List NewFileParts → OwnParts → List (List ℕ) → PlanParts
  plan_with c made own books = record { steps = steps_with c made own books; told = told_of c }

  -- the plan again, by what it is made of
  abbrev Again : List (List ℕ) → List (List ℕ) → PlanParts → Type 0
  Again before after plan =
      (more : PlanParts) × (planned (with_books after) wishes ≡ Ok more) × IsPlanAgain plan before more after

  -- what a result is, or else a plan
  abbrev plan_or : PlanParts → Result PlanParts Refusal → PlanParts
  plan_or other (Ok plan) = plan
  plan_or other (Err refusal) = other

  finish : (before after : List (List ℕ)) (plan : PlanParts) (files : List FileParts) (c : CameInParts) (form : FormParts)
      (made : List NewFileParts) (own : OwnParts) → clear_files (with_books before) ≡ Ok files
      → comes_in (with_books before) wishes files ≡ Ok c → form_of (with_books before) files wishes ≡ Ok form
      → new_files (with_books before) c.replica.held files form ≡ Ok made
      → own_parts (with_books before) c made (other_names (with_books before) files (map new_name_of made)) ≡ Ok own
      → plan_with c made own before ≡ plan → Again before after plan
  finish before after plan files c form made own clear came formed new put is =
      let s = with_books before in
      let first = step_if ReplaceProject c.recovered in
      let last = plan_steps made own (other_than (bytes_or seen.project c.recovered) (project c.replica)) in (
        plan_with c made own after,
        ap (λ r. r >>= λ fs. comes_in s wishes fs >>= λ k. form_of s fs wishes >>= λ g. new_files s k.replica.held fs g >>= λ m.
            plan_of (with_books after) k m (other_names s fs (map new_name_of m))) clear
            ∙ ap (λ r. r >>= λ k. form_of s files wishes >>= λ g. new_files s k.replica.held files g >>= λ m.
            plan_of (with_books after) k m (other_names s files (map new_name_of m))) came
            ∙ ap (λ r. r >>= λ g. new_files s c.replica.held files g >>= λ m.
            plan_of (with_books after) c m (other_names s files (map new_name_of m))) formed
            ∙ ap (λ r. r >>= λ m. plan_of (with_books after) c m (other_names s files (map new_name_of m))) new
            ∙ ap (λ r. r >>= λ o. Ok (plan_with c made o after)) put,
        record {
          first = first;
          last = last;
          steps = sym (ap (λ (p : PlanParts). p.steps) is);
          same = refl;
          told = ap (λ (p : PlanParts). p.told) is;
        },
      )

  again : (before after : List (List ℕ)) (plan : PlanParts) → planned (with_books before) wishes ≡ Ok plan → Again before after plan
  again before after plan e = on_files (clear_files (with_books before)) refl e
    where
      s : SeenParts
      s = with_books before

      on_own : (files : List FileParts) (c : CameInParts) (form : FormParts) (made : List NewFileParts) → clear_files s ≡ Ok files
          → comes_in s wishes files ≡ Ok c → form_of s files wishes ≡ Ok form → new_files s c.replica.held files form ≡ Ok made
          → (r : Result OwnParts Refusal) → own_parts s c made (other_names s files (map new_name_of made)) ≡ r
          → (r >>= λ own. Ok (plan_with c made own before)) ≡ Ok plan → Again before after plan
      on_own files c form made clear came formed new (Ok own) put e =
          finish before after plan files c form made own clear came formed new put (ap (plan_or plan) e)
      on_own files c form made clear came formed new (Err refusal) put e = cc e

      on_made : (files : List FileParts) (c : CameInParts) (form : FormParts) → clear_files s ≡ Ok files
          → comes_in s wishes files ≡ Ok c → form_of s files wishes ≡ Ok form
          → (r : Result (List NewFileParts) Refusal) → new_files s c.replica.held files form ≡ r
          → (r >>= λ made. plan_of s c made (other_names s files (map new_name_of made))) ≡ Ok plan → Again before after plan
      on_made files c form clear came formed (Ok made) new e =
          on_own files c form made clear came formed new (own_parts s c made (other_names s files (map new_name_of made))) refl e
      on_made files c form clear came formed (Err refusal) new e = cc e

      on_form : (files : List FileParts) (c : CameInParts) → clear_files s ≡ Ok files → comes_in s wishes files ≡ Ok c
          → (r : Result FormParts Refusal) → form_of s files wishes ≡ r
          → (r >>= λ form. new_files s c.replica.held files form >>= λ made.
          plan_of s c made (other_names s files (map new_name_of made))) ≡ Ok plan → Again before after plan
      on_form files c clear came (Ok form) formed e =
          on_made files c form clear came formed (new_files s c.replica.held files form) refl e
      on_form files c clear came (Err refusal) formed e = cc e

      on_came : (files : List FileParts) → clear_files s ≡ Ok files → (r : Result CameInParts Refusal) → comes_in s wishes files ≡ r
          → (r >>= λ c. form_of s files wishes >>= λ form. new_files s c.replica.held files form >>= λ made.
          plan_of s c made (other_names s files (map new_name_of made))) ≡ Ok plan → Again before after plan
      on_came files clear (Ok c) came e = on_form files c clear came (form_of s files wishes) refl e
      on_came files clear (Err refusal) came e = cc e

      on_files : (r : Result (List FileParts) Refusal) → clear_files s ≡ r
          → (r >>= λ files. comes_in s wishes files >>= λ c. form_of s files wishes >>= λ form.
          new_files s c.replica.held files form >>= λ made. plan_of s c made (other_names s files (map new_name_of made))) ≡ Ok plan
          → Again before after plan
      on_files (Ok files) clear e = on_came files clear (comes_in s wishes files) refl e
      on_files (Err refusal) clear e = cc e

pub cut_early_is_done_again : CutEarlyIsDoneAgain
cut_early_is_done_again seen wishes plan books none e =
    subst (λ (n : Option (List ℕ)). (more : PlanParts) × (planned (record seen { next = n; unplaced = books }) wishes ≡ Ok more)
    × IsPlanAgain plan seen.unplaced more books) (sym none)
    (again seen wishes seen.unplaced books plan
    (ap (λ (n : Option (List ℕ)). planned (record seen { next = n }) wishes) (sym none) ∙ e))
