-- What was chosen of a conflict, by the line that says it.
use Rattle.std.proofs.Common.{◌≡◌, ◌⊎◌, ℕ, Bool, true, false, ◌||◌, List, [], ◌∷◌, ◌++◌, Option, Some, inl, inr, refl, sym, ap, ◌∙◌, codes, get_or, arith}
use Rattle.std.specs.List.{list_all}
use Rattle.std.proofs.lemmas.Bool.{and_parts}
use Rattle.op_core.specs.Equal.{id_from_same}
use Rattle.op_core.specs.Ids.{Id, is_id, same_id}
use Rattle.op_core.specs.NextIds.{is_among}
use Rattle.conflict_answers.specs.Answers.{Chosen, taken, own, not_now, IsText, MayBeChosen}
use Rattle.conflict_answers.specs.Spelling.{chosen_lines, counted_lines, take_line}

-- an id among valid ones is valid
pub among_valid : (ids : List Id) (id : Id) → list_all is_id ids ≡ true → is_among ids id ≡ true → is_id id ≡ true
among_valid [] id v h = cc
among_valid (x ∷ ids) id v h = by (same_id id x) refl (λ m. among_valid ids id both.1 m) h
  where
    both : (is_id x ≡ true) × (list_all is_id ids ≡ true)
    both = and_parts (is_id x) (list_all is_id ids) v

    by : (b : Bool) → same_id id x ≡ b → (is_among ids id ≡ true → is_id id ≡ true) → (b || is_among ids id) ≡ true → is_id id ≡ true
    by true e on h = ap is_id (id_from_same id x e) ∙ both.0
    by false e on h = on h

-- two pairs in one place have the same parts
pub same_parts : {A B : Type 0} (a x : A) (b y : B) → ◌≡◌ {A = Option (A × B)} (Some (a, b)) (Some (x, y)) → (a ≡ x) × (b ≡ y)
same_parts {A} {B} a x b y e =
    let p : ◌≡◌ {A = A × B} (a, b) (x, y) = cc in (ap (λ (q : A × B). q.0) p, ap (λ (q : A × B). q.1) p)

-- where an id is read, nothing else is chosen but it
pub taken_only : (ids : List Id) (bytes : List ℕ) (id : Id) (after : List ℕ)
    → ((x : Id) (r : List ℕ) → is_id x ≡ true → is_among ids x ≡ true → bytes ≡ take_line x ++ r → (id ≡ x) × (after ≡ r))
    → bytes ≡ take_line id ++ after → (c : Chosen) (rest : List ℕ) → list_all is_id ids ≡ true → MayBeChosen ids c
    → bytes ≡ chosen_lines c ++ rest → ((c ≡ taken id) × (rest ≡ after)) ⊎ (c ≡ not_now)
taken_only ids bytes id after only spelled (taken x) rest v may e =
    let same = only x rest (among_valid ids x v may) may e in inl (ap taken (sym same.0), sym same.1)
taken_only ids bytes id after only spelled (own t) rest v may e =
    let both : take_line id ++ after ≡ chosen_lines (own t) ++ rest = sym spelled ∙ e in
    let second : 97 ≡ 101 = ap (λ (bs : List ℕ). get_or bs 1 0) both in absurd (omega (arith, second))
taken_only ids bytes id after only spelled not_now rest v may e = inr refl

-- the same, as it is given
pub as_given : (d x y : Chosen) (rest r s : List ℕ) → y ≡ x → s ≡ r → ((d ≡ x) × (rest ≡ r)) ⊎ (d ≡ not_now)
    → ((d ≡ y) × (rest ≡ s)) ⊎ (d ≡ not_now)
as_given d x y rest r s e f (inl both) = inl (both.0 ∙ sym e, both.1 ∙ sym f)
as_given d x y rest r s e f (inr n) = inr n

-- where a text is read, and no id, nothing else is chosen but it
pub own_only : (ids : List Id) (bytes text after : List ℕ)
    → ((x : Id) (r : List ℕ) → is_id x ≡ true → is_among ids x ≡ true → bytes ≡ take_line x ++ r → ⊥)
    → ((t r : List ℕ) → IsText t → bytes ≡ counted_lines (codes "text") t ++ r → (text ≡ t) × (after ≡ r)) → (c : Chosen) (rest : List ℕ)
    → list_all is_id ids ≡ true → MayBeChosen ids c → bytes ≡ chosen_lines c ++ rest → ((c ≡ own text) × (rest ≡ after)) ⊎ (c ≡ not_now)
own_only ids bytes text after untaken only (taken x) rest v may e = absurd (untaken x rest (among_valid ids x v may) may e)
own_only ids bytes text after untaken only (own t) rest v may e =
    let same = only t rest may e in inl (ap own (sym same.0), sym same.1)
own_only ids bytes text after untaken only not_now rest v may e = inr refl

-- where neither an id nor a text is read, nothing is chosen
pub none_chosen : (ids : List Id) (bytes : List ℕ)
    → ((x : Id) (r : List ℕ) → is_id x ≡ true → is_among ids x ≡ true → bytes ≡ take_line x ++ r → ⊥)
    → ((t r : List ℕ) → IsText t → bytes ≡ counted_lines (codes "text") t ++ r → ⊥) → (c : Chosen) (rest : List ℕ)
    → list_all is_id ids ≡ true → MayBeChosen ids c → bytes ≡ chosen_lines c ++ rest → c ≡ not_now
none_chosen ids bytes untaken untold (taken x) rest v may e = absurd (untaken x rest (among_valid ids x v may) may e)
none_chosen ids bytes untaken untold (own t) rest v may e = absurd (untold t rest may e)
none_chosen ids bytes untaken untold not_now rest v may e = refl
