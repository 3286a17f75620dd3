-- Bytes that are appended for one item of a list after another.
use Rattle.std.proofs.Common.{◌≡◌, ℕ, ◌+◌, ◌<◌, List, [], ◌∷◌, ◌++◌, length, take, get_or, map, refl, ap, ◌∙◌, sym}
use Rattle.std.specs.List.{flat_map}
use Rattle.std.proofs.lemmas.List.{flat_map_more, take_more}

pub appended : {X A : Type 0} (f : X → List A) (xs : List X) (i : ℕ) (x : X) (old now more : List A) → i < length xs
    → x ≡ get_or xs i x → more ≡ now ++ f x → now ≡ old ++ flat_map f (take i xs) → more ≡ old ++ flat_map f (take (i + 1) xs)
appended {X} {A} f xs i x old now more l is pushed so =
    pushed ∙ ap (λ (ys : List A). ys ++ f x) so ∙ flat_map_more f old (take i xs) x
    ∙ ap (λ (ys : List X). old ++ flat_map f ys) (ap (λ (y : X). take i xs ++ y ∷ []) is ∙ sym (take_more xs i x l))

pub flat_mapped : {X Y A : Type 0} (f : Y → List A) (h : X → Y) (xs : List X) → flat_map f (map h xs) ≡ flat_map (λ x. f (h x)) xs
flat_mapped f h [] = refl
flat_mapped {X} {Y} {A} f h (x ∷ xs) = ap (λ (ys : List A). f (h x) ++ ys) (flat_mapped f h xs)
