-- The lines of the first of some items, and how many more there were.
use Rattle.std.proofs.Common.{◌≡◌, ℕ, ◌≤◌, List, ◌++◌, length, take, ap, ◌∙◌, append_assoc}
use Rattle.std.specs.List.{flat_map}
use Rattle.std.proofs.lemmas.List.{take_all}
use Rattle.sync_changes.specs.Lines.{most_lines, more_line, few_lines}

pub few_told : {X : Type 0} (line : X → List ℕ) (items few : List X) (i : ℕ) (old now : List ℕ) → length few ≤ i
    → few ≡ take most_lines items → now ≡ old ++ flat_map line (take i few)
    → now ++ more_line (length items) ≡ old ++ few_lines line items
few_told {X} line items few i old now l are so =
    ap (λ (xs : List ℕ). xs ++ more_line (length items))
    (so ∙ ap (λ (xs : List X). old ++ flat_map line xs) (take_all i few l ∙ are))
    ∙ append_assoc old (flat_map line (take most_lines items)) (more_line (length items))
