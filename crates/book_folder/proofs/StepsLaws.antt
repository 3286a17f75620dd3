-- The project's bytes after the steps of a plan.
use Rattle.std.proofs.Common.{◌≡◌, ◌++◌, ◌∙◌, ℕ, Bool, true, false, cond, List, [], ◌∷◌, Option, None, Some, Result, Ok, Err, map, refl, sym, ap}
use Rattle.usfm_ref.specs.Books.{same_bytes}
use Rattle.usfm_ref.proofs.Orders.{same_bytes-is}
use Rattle.project_file.specs.Projects.{project}
use Rattle.book_folder.specs.Bases.{other_than}
use Rattle.book_folder.specs.Done.{StepsMakeProject, project_after, replaced_by}
use Rattle.book_folder.specs.Plans.{NewFileParts, OwnParts, StepParts, bytes_or, own_parts, own_puts, placed, placing, plan_steps, recovery, step_if, told_of, with_sync}
use Rattle.book_folder.specs.Plans.{ReplaceProject, Settle, RemoveNew, WriteNew, SyncOwn, PutBase, PutNames, PutNext, SyncFolder}
use Rattle.book_folder.specs.Refusals.{◌>>=◌}
use Rattle.book_folder.specs.declared.refusal.Refusal.{Refusal}

-- steps after others
after_both : (b : List ℕ) (xs ys : List StepParts) → project_after b (xs ++ ys) ≡ project_after (project_after b xs) ys
after_both b [] ys = refl
after_both b (x ∷ xs) ys = after_both (replaced_by b x) xs ys

-- steps that leave the project as it is
abbrev Keeps : List StepParts → Type 0
Keeps steps = (b : List ℕ) → project_after b steps ≡ b

keeps_each : {A : Type 0} (step : A → StepParts) (xs : List A) → ((b : List ℕ) (x : A) → replaced_by b (step x) ≡ b)
    → Keeps (map step xs)
keeps_each step [] h b = refl
keeps_each step (x ∷ xs) h b = ap (λ (a : List ℕ). project_after a (map step xs)) (h b x) ∙ keeps_each step xs h b

keeps_both : (xs ys : List StepParts) → Keeps xs → Keeps ys → Keeps (xs ++ ys)
keeps_both xs ys h i b = after_both b xs ys ∙ ap (λ (a : List ℕ). project_after a ys) (h b) ∙ i b

keeps_synced : (xs : List StepParts) → Keeps xs → Keeps (with_sync SyncOwn xs)
keeps_synced [] h b = refl
keeps_synced (x ∷ xs) h b = keeps_both (x ∷ xs) (SyncOwn ∷ []) h (λ a. refl) b

keeps_placed : (xs : List StepParts) → Keeps xs → Keeps (placed xs)
keeps_placed [] h b = refl
keeps_placed (x ∷ xs) h b = keeps_both (x ∷ xs) (SyncFolder ∷ Settle ∷ []) h (λ a. refl) b

keeps_if : (step : List ℕ → StepParts) (bytes : Option (List ℕ)) → ((b x : List ℕ) → replaced_by b (step x) ≡ b)
    → Keeps (step_if step bytes)
keeps_if step None h b = refl
keeps_if step (Some x) h b = h b x

keeps_own : (own : OwnParts) → Keeps (own_puts own)
keeps_own own =
    keeps_both (step_if PutBase own.base ++ step_if PutNames own.names) (step_if PutNext own.next)
    (keeps_both (step_if PutBase own.base) (step_if PutNames own.names)
    (keeps_if PutBase own.base (λ b x. refl)) (keeps_if PutNames own.names (λ b x. refl)))
    (keeps_if PutNext own.next (λ b x. refl))

replaces_if : (b : List ℕ) (bytes : Option (List ℕ)) → project_after b (step_if ReplaceProject bytes) ≡ bytes_or b bytes
replaces_if b None = refl
replaces_if b (Some x) = refl

-- after the steps that finish what was cut short
recovered : (b : List ℕ) (bytes next : Option (List ℕ)) (unplaced : List (List ℕ))
    → project_after b (recovery bytes next unplaced) ≡ bytes_or b bytes
recovered b bytes None unplaced =
    after_both b (step_if ReplaceProject bytes) (map RemoveNew unplaced)
    ∙ keeps_each RemoveNew unplaced (λ a x. refl) (project_after b (step_if ReplaceProject bytes))
    ∙ replaces_if b bytes
recovered b bytes (Some next) unplaced =
    after_both b (step_if ReplaceProject bytes) (Settle ∷ []) ∙ replaces_if b bytes

-- after the steps of what is planned
planned_after : (b : List ℕ) (files : List NewFileParts) (own : OwnParts) (bytes : Option (List ℕ))
    → project_after b (plan_steps files own bytes) ≡ bytes_or b bytes
planned_after b files own bytes =
    let writes = with_sync SyncOwn (map WriteNew files) in
    let puts = with_sync SyncOwn (own_puts own) in
    let project = step_if ReplaceProject bytes in
    let places = placed (map placing files) in
    after_both b (writes ++ puts ++ project) places
    ∙ keeps_placed (map placing files) (keeps_each placing files (λ a x. refl)) (project_after b (writes ++ puts ++ project))
    ∙ after_both b (writes ++ puts) project
    ∙ ap (λ (a : List ℕ). project_after a project)
    (keeps_both writes puts (keeps_synced (map WriteNew files) (keeps_each WriteNew files (λ a x. refl)))
    (keeps_synced (own_puts own) (keeps_own own)) b)
    ∙ replaces_if b bytes

-- bytes that are put where they are other than those there
other_put : (was bytes : List ℕ) → bytes_or was (other_than was bytes) ≡ bytes
other_put was bytes = by (same_bytes bytes was) refl
  where
    by : (same : Bool) → same_bytes bytes was ≡ same → bytes_or was (cond same None (Some bytes)) ≡ bytes
    by true e = sym (same_bytes-is bytes was e)
    by false e = refl

-- once the steps of a plan were done, the project is the one into which all came in
pub steps_make_project : StepsMakeProject
steps_make_project seen c made names p e = by (own_parts seen c made names) e
  where
    by : (own : Result OwnParts Refusal) → (own >>= λ own. Ok (record {
      steps = recovery c.recovered seen.next seen.unplaced
          ++ plan_steps made own (other_than (bytes_or seen.project c.recovered) (project c.replica));
      told = told_of c;
    })) ≡ Ok p → project_after seen.project p.steps ≡ project c.replica
    by (Err refusal) h = cc h
    by (Ok own) h =
        let was = bytes_or seen.project c.recovered in
        let bytes = other_than was (project c.replica) in
        let steps : p.steps ≡ recovery c.recovered seen.next seen.unplaced ++ plan_steps made own bytes = cc h in
        ap (project_after seen.project) steps
        ∙ after_both seen.project (recovery c.recovered seen.next seen.unplaced) (plan_steps made own bytes)
        ∙ ap (λ (a : List ℕ). project_after a (plan_steps made own bytes)) (recovered seen.project c.recovered seen.next seen.unplaced)
        ∙ planned_after was made own bytes
        ∙ other_put was (project c.replica)
