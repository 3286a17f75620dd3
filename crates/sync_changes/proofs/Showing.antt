-- What is shown among the operations of one segment, by definitions alone.
use Rattle.std.proofs.Common.{◌≡◌, ℕ, ◌+◌, ◌<◌, Bool, cond, ◌||◌, List, [], ◌∷◌, ◌++◌, length, take, get_or, filter, refl, sym, ap, ◌∙◌}
use Rattle.std.specs.BTreeSet.{BTreeSet, contains}
use Rattle.std.specs.List.{list_any}
use Rattle.std.proofs.lemmas.List.{take_more}
use Rattle.std.proofs.lemmas.List.Folds.{list_any-append}
use Rattle.std.proofs.Math.Bool.{or-false}
use Rattle.op_core.specs.Ids.{Id, id_cmp}
use Rattle.op_core.specs.Ops.{Operation}
use Rattle.sync_changes.specs.Loops.Parts.{passes_naming, HasNamed}

-- tests that are the same leave the same
pub same_filter : {X : Type 0} (p q : X → Bool) → ((x : X) → p x ≡ q x) → (xs : List X) → filter p xs ≡ filter q xs
same_filter p q f [] = refl
same_filter p q f (x ∷ xs) = λ i. cond (f x i) (x ∷ same_filter p q f xs i) (same_filter p q f xs i)

-- the names of one operation more
pub named_more : (ops : List Operation) (p : Id → Bool) (i : ℕ) (o : Operation) → i < length ops → o ≡ get_or ops i o
    → (s t : BTreeSet Id) → ((q : Id) → contains id_cmp t q ≡ (contains id_cmp s q || passes_naming p q o))
    → HasNamed (take i ops) p s → HasNamed (take (i + 1) ops) p t
named_more ops p i o l is s t more has q =
    more q ∙ ap (λ b. b || passes_naming p q o) (has q) ∙ sym on
  where
    on : list_any (passes_naming p q) (take (i + 1) ops) ≡ (list_any (passes_naming p q) (take i ops) || passes_naming p q o)
    on = ap (list_any (passes_naming p q)) (take_more ops i o l ∙ ap (λ (r : Operation). take i ops ++ r ∷ []) (sym is))
        ∙ list_any-append (passes_naming p q) (take i ops) (o ∷ [])
        ∙ ap (λ b. list_any (passes_naming p q) (take i ops) || b) (or-false (passes_naming p q o))
