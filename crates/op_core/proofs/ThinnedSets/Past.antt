-- A walk over a set that leaves out what its segments do not show.
use Rattle.std.proofs.Common.{◌≡◌, ℕ, zero, suc, ◌<◌, ◌≤◌, ◌+◌, Bool, true, false, not, cond, List, [], ◌∷◌, ◌++◌, Some, map, filter, length, get_or, take, drop, arith, add-one, refl, sym, ap, ◌∙◌}
use Rattle.std.specs.Prelude.{slice_set}
use Rattle.std.specs.List.{list_any}
use Rattle.op_core.specs.Ids.{Id, same_id}
use Rattle.op_core.specs.Ops.{Operation, bare}
use Rattle.op_core.specs.Sets.{rises, get}
use Rattle.op_core.specs.Loops.Index.{register_of, shown_in, IsIndex}
use Rattle.op_core.specs.Thinned.{is_past, is_left_out, thinned_in}
use Rattle.op_core.specs.declared.index.chapter.Chapter.{Chapter}
use Rattle.op_core.proofs.Sets.Union.{held_itself}
use Rattle.op_core.proofs.Indexed.Enrolled.{more_items, each_at}
use Rattle.op_core.proofs.ThinnedSets.TwoSteps.{past_not_shown}

-- ---- a walk that changes each item

module _ {X : Type 0} (f : X → X) where
  abbrev pub walked : List X → ℕ → List X
  walked s i = map f (take i s) ++ drop i s

  pub walk_get : (s : List X) (i : ℕ) (d : X) → i < length s → get_or (walked s i) i d ≡ get_or s i d
  walk_get [] i d l = absurd (omega arith)
  walk_get (y ∷ s) zero d l = refl
  walk_get (y ∷ s) (suc i) d l = walk_get s i d (omega arith)

  pub walk_set : (s : List X) (i : ℕ) (o : X) → i < length s → o ≡ get_or s i o
      → slice_set (walked s i) i (f o) ≡ walked s (suc i)
  walk_set [] i o l e = absurd (omega arith)
  walk_set (y ∷ s) zero o l e = ap (λ x. f x ∷ s) e
  walk_set (y ∷ s) (suc i) o l e = ap (λ xs. f y ∷ xs) (walk_set s i o (omega arith) e)

  walk_keep : (s : List X) (i : ℕ) (o : X) → i < length s → o ≡ get_or s i o → f o ≡ o → walked s i ≡ walked s (suc i)
  walk_keep [] i o l e k = absurd (omega arith)
  walk_keep (y ∷ s) zero o l e k = ap (λ x. x ∷ s) (sym e ∙ sym k ∙ ap f e)
  walk_keep (y ∷ s) (suc i) o l e k = ap (λ xs. f y ∷ xs) (walk_keep s i o (omega arith) e k)

  pub walk_start : (s : List X) → walked s 0 ≡ s
  walk_start s = refl

  pub walk_end : (s : List X) (i : ℕ) → length s ≤ i → walked s i ≡ map f s
  walk_end [] zero l = refl
  walk_end [] (suc i) l = refl
  walk_end (y ∷ s) zero l = absurd (omega arith)
  walk_end (y ∷ s) (suc i) l = ap (λ xs. f y ∷ xs) (walk_end s i (omega arith))

-- ---- thinning

pub walk_length : (s now : List Operation) (i : ℕ) → now ≡ walked (thinned_in s) s i → length now ≡ length s
walk_length s now i e = ap length e ∙ over (thinned_in s) s i
  where
    over : (f : Operation → Operation) (s : List Operation) (i : ℕ) → length (walked f s i) ≡ length s
    over f [] zero = refl
    over f [] (suc i) = refl
    over f (y ∷ s) zero = refl
    over f (y ∷ s) (suc i) = ap suc (over f s i)

-- an item that is past loses its text
pub walk_past : (s now : List Operation) (i : ℕ) (o : Operation) → i < length s → o ≡ get_or s i o → is_past s o ≡ true
    → now ≡ walked (thinned_in s) s i → slice_set now i (bare o) ≡ walked (thinned_in s) s (i + 1)
walk_past s now i o l e p h =
    (λ j. slice_set (h j) i (cond (sym p j) (bare o) o)) ∙ walk_set (thinned_in s) s i o l e
    ∙ ap (walked (thinned_in s) s) (sym (add-one i))

-- another stays
pub walk_stays : (s now : List Operation) (i : ℕ) (o : Operation) → i < length s → o ≡ get_or s i o → is_past s o ≡ false
    → now ≡ walked (thinned_in s) s i → now ≡ walked (thinned_in s) s (i + 1)
walk_stays s now i o l e p h =
    h ∙ walk_keep (thinned_in s) s i o l e (ap (λ b. cond b (bare o) o) p) ∙ ap (walked (thinned_in s) s) (sym (add-one i))

-- what the index says of an item
pub told_past : (s : List Operation) (chapters : List Chapter) (i : ℕ) (o : Operation) (r : Bool) → rises s ≡ true → IsIndex s chapters
    → i < length s → o ≡ get_or s i o → r ≡ not (list_any (same_id o.id) (shown_in (register_of o.segment chapters))) → r ≡ is_past s o
told_past s chapters i o r h x l e t =
    t ∙ ap (λ (ids : List Id). not (list_any (same_id o.id) ids)) (x.keeps.shown o.segment)
    ∙ sym (past_not_shown s o h (each_at (λ p. get s p.id ≡ Some p) s i o l e (held_itself s h)))

-- ---- how many

count_push : (p : Operation → Bool) (xs : List Operation) (o : Operation)
    → length (filter p (xs ++ o ∷ [])) ≡ length (filter p xs) + cond (p o) 1 0
count_push p [] o = by (p o)
  where
    by : (b : Bool) → length (cond b (o ∷ []) []) ≡ 0 + cond b 1 0
    by true = omega arith
    by false = omega arith
count_push p (x ∷ xs) o = by (p x) (count_push p xs o)
  where
    by : (b : Bool) → length (filter p (xs ++ o ∷ [])) ≡ length (filter p xs) + cond (p o) 1 0
        → length (cond b (x ∷ filter p (xs ++ o ∷ [])) (filter p (xs ++ o ∷ [])))
        ≡ length (cond b (x ∷ filter p xs) (filter p xs)) + cond (p o) 1 0
    by true h = omega (arith, h)
    by false h = h

pub counts_more : (s : List Operation) (i : ℕ) (o : Operation) (n : ℕ) → i < length s → o ≡ get_or s i o → is_left_out s o ≡ true
    → n ≡ length (filter (is_left_out s) (take i s)) → n + 1 ≡ length (filter (is_left_out s) (take (i + 1) s))
counts_more s i o n l e p h =
    let a = ap (λ (xs : List Operation). length (filter (is_left_out s) xs)) (more_items s i o l e)
    ∙ count_push (is_left_out s) (take i s) o ∙ ap (λ b. length (filter (is_left_out s) (take i s)) + cond b 1 0) p in
    omega (arith, a, h)

pub counts_same : (s : List Operation) (i : ℕ) (o : Operation) (n : ℕ) → i < length s → o ≡ get_or s i o → is_left_out s o ≡ false
    → n ≡ length (filter (is_left_out s) (take i s)) → n ≡ length (filter (is_left_out s) (take (i + 1) s))
counts_same s i o n l e p h =
    let a = ap (λ (xs : List Operation). length (filter (is_left_out s) xs)) (more_items s i o l e)
    ∙ count_push (is_left_out s) (take i s) o ∙ ap (λ b. length (filter (is_left_out s) (take i s)) + cond b 1 0) p in
    omega (arith, a, h)

-- no more operations pass a test than there are
pub counts_within : (p : Operation → Bool) (xs : List Operation) → length (filter p xs) ≤ length xs
counts_within p [] = omega arith
counts_within p (x ∷ xs) = by (p x) (counts_within p xs)
  where
    by : (b : Bool) → length (filter p xs) ≤ length xs → length (cond b (x ∷ filter p xs) (filter p xs)) ≤ suc (length xs)
    by true h = omega (arith, h)
    by false h = omega (arith, h)
