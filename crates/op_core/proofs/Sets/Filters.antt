-- Subsets.
use Rattle.std.proofs.Common.{◌≡◌, Bool, true, false, cond, List, [], ◌∷◌, filter, refl, sym, ap, ◌∙◌, Some}
use Rattle.std.specs.List.{list_all}
use Rattle.std.proofs.lemmas.Bool.{and_parts, and_from, cond-false, cond-true, false≢true, true≢false}
use Rattle.op_core.specs.Ids.{Id, same_id, id_below}
use Rattle.op_core.specs.Ops.{Operation}
use Rattle.op_core.specs.Sets.{rises, get}
use Rattle.op_core.proofs.Sets.Union.{AllAbove, rises_parts}
use Rattle.op_core.proofs.Sets.Clashes.{get_cases}
use Rattle.op_core.proofs.Sets.Gets.{get_first, get_after}

above-filter : (id : Id) (p : Operation → Bool) (ops : List Operation) → AllAbove id ops → AllAbove id (filter p ops)
above-filter id p [] h = refl
above-filter id p (x ∷ ops) h =
    let q = and_parts (id_below id x.id) (list_all (λ p. id_below id p.id) ops) h in
    let rest = above-filter id p ops q.1 in
    elim (p x) as (λ b. AllAbove id (cond b (x ∷ filter p ops) (filter p ops))) [ true ↦ and_from _ _ q.0 rest | false ↦ rest ]

-- some operations of a set rise
pub rises-filter : (p : Operation → Bool) (ops : List Operation) → rises ops ≡ true → rises (filter p ops) ≡ true
rises-filter p [] h = refl
rises-filter p (x ∷ ops) h =
    let parts = rises_parts x ops h in
    let rest = rises-filter p ops parts.1 in
    elim (p x) as (λ b. rises (cond b (x ∷ filter p ops) (filter p ops))
    ≡ true) [ true ↦ and_from _ _ (above-filter x.id p ops parts.0) rest | false ↦ rest ]

-- what a subset holds, the set holds
pub filter_within : (p : Operation → Bool) (ops : List Operation) → rises ops ≡ true → (q : Id) (o : Operation)
    → get (filter p ops) q ≡ Some o → get ops q ≡ Some o
filter_within p [] h q o g = g
filter_within p (x ∷ ops) h q o g = by (λ g. get_after x ops q o h (filter_within p ops (rises_parts x ops h).1 q o g)) (p x) g
  where
    by : (get (filter p ops) q ≡ Some o → get (x ∷ ops) q ≡ Some o) → (b : Bool) → get (cond b (x ∷ filter p ops) (filter p ops)) q ≡ Some o
        → get (x ∷ ops) q ≡ Some o
    by later true g = get_cases q x (filter p ops) o g (λ e f. ap (get (x ∷ ops)) e ∙ get_first x ops ∙ ap Some f) later
    by later false g = later g

-- and it passes
pub filter_passes : (p : Operation → Bool) (ops : List Operation) (q : Id) (o : Operation) → get (filter p ops) q ≡ Some o → p o ≡ true
filter_passes p [] q o g = cc g
filter_passes p (x ∷ ops) q o g = by (filter_passes p ops q o) (p x) refl g
  where
    by : (get (filter p ops) q ≡ Some o → p o ≡ true) → (b : Bool) → p x ≡ b → get (cond b (x ∷ filter p ops) (filter p ops)) q ≡ Some o
        → p o ≡ true
    by later true e g = get_cases q x (filter p ops) o g (λ _ f. ap p (sym f) ∙ e) later
    by later false e g = later g

-- what passes is kept
pub filter_kept : (p : Operation → Bool) (ops : List Operation) (q : Id) (o : Operation) → get ops q ≡ Some o → p o ≡ true
    → get (filter p ops) q ≡ Some o
filter_kept p [] q o g h = g
filter_kept p (x ∷ ops) q o g h = by (same_id q x.id) refl g (filter_kept p ops q o)
  where
    kept : (b d : Bool) → same_id q x.id ≡ d → p x ≡ b → (d ≡ true → b ≡ true) → (d ≡ true → x ≡ o)
        → (d ≡ false → get (filter p ops) q ≡ Some o) → get (cond b (x ∷ filter p ops) (filter p ops)) q ≡ Some o
    kept true true e f one here rest = cond-true (same_id q x.id) (Some x) _ e ∙ ap Some (here refl)
    kept true false e f one here rest = cond-false (same_id q x.id) (Some x) _ e ∙ rest refl
    kept false true e f one here rest = absurd (false≢true (one refl))
    kept false false e f one here rest = rest refl

    by : (d : Bool) → same_id q x.id ≡ d → cond d (Some x) (get ops q) ≡ Some o
        → (get ops q ≡ Some o → p o ≡ true → get (filter p ops) q ≡ Some o) → get (filter p (x ∷ ops)) q ≡ Some o
    by true e g rest = let same : x ≡ o = cc g in kept (p x) true e refl (λ _. ap p same ∙ h) (λ _. same) (λ n. absurd (true≢false n))
    by false e g rest = kept (p x) false e refl (λ n. absurd (false≢true n)) (λ n. absurd (false≢true n)) (λ _. rest g h)

-- what all pass, all of a subset pass
pub all-filter : (P : Operation → Bool) (p : Operation → Bool) (ops : List Operation) → list_all P ops ≡ true
    → list_all P (filter p ops) ≡ true
all-filter P p [] h = refl
all-filter P p (x ∷ ops) h =
    let q = and_parts (P x) (list_all P ops) h in
    let rest = all-filter P p ops q.1 in
    elim (p x) as (λ b. list_all P (cond b (x ∷ filter p ops) (filter p ops)) ≡ true) [ true ↦ and_from _ _ q.0 rest | false ↦ rest ]

-- what all that pass have, all of the subset have
pub all_of_filter : (P p R : Operation → Bool) → ((o : Operation) → P o ≡ true → p o ≡ true → R o ≡ true) → (ops : List Operation)
    → list_all P ops ≡ true → list_all R (filter p ops) ≡ true
all_of_filter P p R f [] h = refl
all_of_filter P p R f (x ∷ ops) h = by (all_of_filter P p R f ops q.1) (p x) refl
  where
    q : (P x ≡ true) × (list_all P ops ≡ true)
    q = and_parts (P x) (list_all P ops) h

    by : list_all R (filter p ops) ≡ true → (b : Bool) → p x ≡ b → list_all R (cond b (x ∷ filter p ops) (filter p ops)) ≡ true
    by rest true e = and_from _ _ (f x q.0 e) rest
    by rest false e = rest
