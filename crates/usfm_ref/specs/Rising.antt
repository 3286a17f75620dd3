-- Lists in a rising order (this project's own rule). The order is given, and how an item's key is
-- read.
use Rattle.std.specs.Prelude.{Bool, true, ◌&&◌, List, [], ◌∷◌}
use Rattle.std.specs.List.{list_all}
use Rattle.std.specs.declared.cmp.Ordering.{Ordering}
use Rattle.std.specs.Ordering.{is_lt}
use Rattle.std.specs.FinMap.Entries.{by_order}

-- each key is below all later ones
abbrev pub rises_by : {K X : Type 0} → (K → K → Ordering) → (X → K) → List X → Bool
rises_by cmp key [] = true
rises_by cmp key (x ∷ xs) = list_all (λ y. is_lt (cmp (key x) (key y))) xs && rises_by cmp key xs

-- a rising list with one item more in its place; where one of its key is there, that one stays
abbrev pub with_item : {K : Type 0} → (K → K → Ordering) → K → List K → List K
with_item cmp k [] = k ∷ []
with_item cmp k (x ∷ xs) = by_order (cmp k x) (k ∷ x ∷ xs) (x ∷ xs) (x ∷ with_item cmp k xs)

-- the items of a list, rising, each once
abbrev pub rising : {K : Type 0} → (K → K → Ordering) → List K → List K
rising cmp [] = []
rising cmp (x ∷ xs) = with_item cmp x (rising cmp xs)

-- a rising list with one item more in the place of its key; where one of its key is there, that one
-- is replaced
abbrev pub placed : {K X : Type 0} → (K → K → Ordering) → (X → K) → X → List X → List X
placed cmp key y [] = y ∷ []
placed cmp key y (x ∷ xs) =
    by_order (cmp (key y) (key x)) (y ∷ x ∷ xs) (y ∷ xs) (x ∷ placed cmp key y xs)
