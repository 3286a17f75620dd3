-- What was cut short is known.
use Rattle.std.proofs.Common.{◌≡◌, ◌⊎◌, ℕ, Bool, true, false, cond, List, [], ◌∷◌, ◌++◌, inl, inr, Option, None, Some, Result, Ok, Err, option_to_list, refl, sym, ap, subst, ◌∙◌}
use Rattle.usfm_ref.specs.Books.{same_bytes}
use Rattle.usfm_ref.proofs.Orders.{same_bytes-is}
use Rattle.project_file.specs.Projects.{project}
use Rattle.book_folder.specs.Bases.{next_base, other_than}
use Rattle.book_folder.specs.Coming.{CameInParts}
use Rattle.book_folder.specs.CutShort.{CutShortIsKnown, IsLeft, IsPlan, put_by, settled_of}
use Rattle.book_folder.specs.Disks.{Act, DiskParts, IsRead, acts_of}
use Rattle.book_folder.specs.Plans.{NewFileParts, OwnParts, PlanParts, StepParts, base_put, bytes_or, headless, plan_steps, recovery, told_of}
use Rattle.book_folder.specs.Refusals.{◌>>=◌}
use Rattle.book_folder.specs.Wanted.{SeenParts, WishParts}
use Rattle.book_folder.specs.declared.refusal.Refusal.{Refusal}
use Rattle.book_folder.proofs.CutShort.Fronts.{Fronts, LeftIs, front_taken}
use Rattle.book_folder.proofs.CutShort.Known.{some_put}
use Rattle.book_folder.proofs.CutShort.OwnBooks.{own_books}
use Rattle.book_folder.proofs.CutShort.Recovered.{BaseIsFirst, ProjectIsPut, none_put, recovered_fronts}

-- the steps of a plan, or none
abbrev pub steps_of : Result PlanParts Refusal → List StepParts
steps_of (Ok plan) = plan.steps
steps_of (Err refusal) = []

-- a base is put, or it is this one
other_or_one : (one bytes : List ℕ) (b : Bool) → same_bytes bytes one ≡ b
    → (cond b None (Some bytes) ≡ Some bytes) ⊎ (cond b None (Some bytes) ≡ None) × (one ∷ [] ≡ bytes ∷ [])
other_or_one one bytes true e = inr (refl, ap (λ (x : List ℕ). x ∷ []) (sym (same_bytes-is bytes one e)))
other_or_one one bytes false e = inl refl

-- a base is put, or it is the one base that there is, beside no next one
put_or_there : (bases : List (List ℕ)) (next : Option (List ℕ)) (bytes : List ℕ)
    → (base_put bases next bytes ≡ Some bytes)
    ⊎ (base_put bases next bytes ≡ None) × (bases ≡ bytes ∷ []) × (next ≡ None)
put_or_there [] next bytes = inl refl
put_or_there (one ∷ []) None bytes = elim (other_or_one one bytes (same_bytes bytes one) refl) [
  | inl e ↦ inl e
  | inr p ↦ inr (p.0, p.1, refl)
]
put_or_there (one ∷ []) (Some n) bytes = inl refl
put_or_there (one ∷ two ∷ bases) next bytes = inl refl

-- the one base is the base
one_base : (base : Option (List ℕ)) (bytes : List ℕ) → option_to_list base ≡ bytes ∷ [] → base ≡ Some bytes
one_base None bytes e = cc e
one_base (Some there) bytes e = let is : there ≡ bytes = cc e in ap (λ (b : List ℕ). Some b) is

module _ (seen : SeenParts) (d : DiskParts) (read : IsRead seen d) where
  -- a base that is put, or is there, is the first one
  pub base_first : (bytes : List ℕ) → BaseIsFirst d bytes (base_put seen.bases seen.next bytes)
  base_first bytes = by (put_or_there seen.bases seen.next bytes)
    where
      by : (base_put seen.bases seen.next bytes ≡ Some bytes)
          ⊎ (base_put seen.bases seen.next bytes ≡ None) × (seen.bases ≡ bytes ∷ []) × (seen.next ≡ None)
          → BaseIsFirst d bytes (base_put seen.bases seen.next bytes)
      by (inl put) = inl put
      by (inr there) = inr (
        there.0,
        λ x h.
            let none : d.next ≡ None = sym read.next ∙ there.2 in
            let same : d.base ≡ x.base = cc (sym (ap (settled_of d) none) ∙ h) in
            sym same ∙ one_base d.base bytes (sym read.bases ∙ there.1),
      )

  -- the project with what the bases brought
  pub began : (recovered : Option (List ℕ)) → bytes_or d.project recovered ≡ bytes_or seen.project recovered
  began recovered = ap (λ (p : List ℕ). bytes_or p recovered) (sym read.project)

  -- the project gets all that came in, or has it
  pub project_put : (recovered : Option (List ℕ)) (bytes : List ℕ)
      → ProjectIsPut bytes (other_than (bytes_or seen.project recovered) bytes) (bytes_or d.project recovered)
  project_put recovered bytes = by (same_bytes bytes (bytes_or seen.project recovered)) refl
    where
      by : (b : Bool) → same_bytes bytes (bytes_or seen.project recovered) ≡ b
          → ProjectIsPut bytes (cond b None (Some bytes)) (bytes_or d.project recovered)
      by true e =
          inr (
            refl,
            sym (same_bytes-is bytes (bytes_or seen.project recovered) e
                ∙ ap (λ (p : List ℕ). bytes_or p recovered) read.project),
          )
      by false e = inl refl

-- a plan's acts, broken off anywhere, leave what is known
fronts : (seen : SeenParts) (wishes : WishParts) (c : CameInParts) (made : List NewFileParts) (base : List ℕ) (plan : PlanParts)
    (d : DiskParts) → IsPlan seen wishes c made base plan → IsRead seen d → (stays : List ℕ → Bool) (chance : Act → List Act → Bool)
    → Fronts (LeftIs chance (IsLeft d (put_by seen.project c base) made) d) (acts_of stays d plan.steps)
fronts seen wishes c [] base plan d is read stays chance =
    subst (λ (steps : List StepParts). Fronts (LeftIs chance (IsLeft d (put_by seen.project c base) []) d) (acts_of stays d steps))
    (ap steps_of is.planned)
    (recovered_fronts d (put_by seen.project c base) stays chance [] c.recovered seen.next seen.unplaced
    (plan_steps [] (record { base = base_put seen.bases seen.next next; names = is.names; next = None }) bytes) (sym read.next)
    (began seen d read c.recovered)
    (none_put d (put_by seen.project c base) stays chance [] (base_put seen.bases seen.next next) is.names bytes
    (bytes_or d.project c.recovered)
    (subst (λ (b : List ℕ). BaseIsFirst d b (base_put seen.bases seen.next next)) first (base_first seen d read next))
    (began seen d read c.recovered) (project_put seen d read c.recovered (project c.replica))))
  where
    next : List ℕ
    next = next_base (headless c.replica.held) c.replica.held

    bytes : Option (List ℕ)
    bytes = other_than (bytes_or seen.project c.recovered) (project c.replica)

    first : next ≡ base
    first = let e = is.first in cc e
fronts seen wishes c (one ∷ others) base plan d is read stays chance =
    subst (λ (steps : List StepParts).
    Fronts (LeftIs chance (IsLeft d (put_by seen.project c base) (one ∷ others)) d) (acts_of stays d steps)) same
    (recovered_fronts d (put_by seen.project c base) stays chance (one ∷ others) c.recovered seen.next seen.unplaced
    (plan_steps (one ∷ others) own bytes) (sym read.next) (began seen d read c.recovered)
    (some_put d (put_by seen.project c base) stays chance one others
    (own_books seen c.replica.held is.files is.form (one ∷ others) is.new)
    (base_put seen.bases seen.next base) is.names bytes (bytes_or d.project c.recovered) (base_first seen d read base)
    (began seen d read c.recovered) (project_put seen d read c.recovered (project c.replica))))
  where
    bytes : Option (List ℕ)
    bytes = other_than (bytes_or seen.project c.recovered) (project c.replica)

    beside : List ℕ → OwnParts
    beside b = record {
      base = base_put seen.bases seen.next b;
      names = is.names;
      next = Some (next_base (headless c.replica.held) c.replica.held);
    }

    own : OwnParts
    own = beside base

    planned : Result OwnParts Refusal → Result PlanParts Refusal
    planned r = r >>= λ o. Ok (record {
      steps = recovery c.recovered seen.next seen.unplaced ++ plan_steps (one ∷ others) o bytes;
      told = told_of c;
    })

    same : recovery c.recovered seen.next seen.unplaced ++ plan_steps (one ∷ others) own bytes ≡ plan.steps
    same = sym (ap (λ r. steps_of (planned (r >>= λ b. Ok (beside b)))) is.first) ∙ ap steps_of is.planned

pub cut_short_is_known : CutShortIsKnown
cut_short_is_known seen wishes c made base plan d is read stays chance n =
    front_taken (LeftIs chance (IsLeft d (put_by seen.project c base) made) d) (acts_of stays d plan.steps)
    (fronts seen wishes c made base plan d is read stays chance) n
