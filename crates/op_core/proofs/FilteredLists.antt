-- Lists that are filtered, mapped and put together, and tests that pass in them.
use Rattle.std.proofs.Common.{◌≡◌, Bool, true, false, cond, ◌&&◌, ◌||◌, List, [], ◌∷◌, filter, map, refl, sym, ap, ◌∙◌}
use Rattle.std.specs.List.{list_all, list_any, flat_map, AllByRecursion}
use Rattle.std.proofs.lemmas.Bool.{and_parts, or_parts, cond-true, cond-false, false≢true, false_from_ne_true}
use Rattle.std.proofs.lemmas.List.Folds.{Any-from_list_any, list_any-from_Any, list_any-append}

-- a test that passes more passes in more lists
pub any_weaker : {X : Type 0} (p q : X → Bool) → ((x : X) → p x ≡ true → q x ≡ true) → (xs : List X) → list_any p xs ≡ true
    → list_any q xs ≡ true
any_weaker p q f xs h = let a = Any-from_list_any p xs h in list_any-from_Any q xs (a.0, a.1, a.2, a.3, f a.1 a.4)

-- a test that passes less passes in no more lists
pub none_of_less : {X : Type 0} (p q : X → Bool) → ((x : X) → p x ≡ true → q x ≡ true) → (xs : List X) → list_any q xs ≡ false
    → list_any p xs ≡ false
none_of_less p q f xs h = false_from_ne_true _ (λ e. false≢true (sym h ∙ any_weaker p q f xs e))

-- nothing is left of a list in which the test passes nowhere
pub filter_none : {X : Type 0} (p : X → Bool) (xs : List X) → list_any p xs ≡ false → filter p xs ≡ []
filter_none p [] h = refl
filter_none p (x ∷ xs) h = let parts = or_parts (p x) (list_any p xs) h in cond-false _ _ _ parts.0 ∙ filter_none p xs parts.1

-- and all is left of one in which it passes everywhere
pub filter_all : {X : Type 0} (p : X → Bool) (xs : List X) → list_all p xs ≡ true → filter p xs ≡ xs
filter_all p [] h = refl
filter_all {X} p (x ∷ xs) h =
    let parts = and_parts (p x) (list_all p xs) h in cond-true _ _ _ parts.0 ∙ ap (λ (ys : List X). x ∷ ys) (filter_all p xs parts.1)

-- to filter by one test and then by another is to filter by both
pub filter_both : {X : Type 0} (p q r : X → Bool) → ((x : X) → (q x && p x) ≡ r x) → (xs : List X) → filter p (filter q xs) ≡ filter r xs
filter_both p q r f [] = refl
filter_both {X} p q r f (x ∷ xs) = by (filter_both p q r f xs) (q x) (r x) (f x)
  where
    by : filter p (filter q xs) ≡ filter r xs → (b c : Bool) → (b && p x) ≡ c
        → filter p (cond b (x ∷ filter q xs) (filter q xs)) ≡ cond c (x ∷ filter r xs) (filter r xs)
    by rest true c f = (λ i. cond (f i) (x ∷ rest i) (rest i))
    by rest false c f = rest ∙ ap (λ (d : Bool). cond d (x ∷ filter r xs) (filter r xs)) f

-- a test passes in a filtered list where both tests pass in the list
pub any_filter : {X : Type 0} (p q : X → Bool) (xs : List X) → list_any p (filter q xs) ≡ list_any (λ x. q x && p x) xs
any_filter p q [] = refl
any_filter {X} p q (x ∷ xs) = by (any_filter p q xs) (q x)
  where
    by : list_any p (filter q xs) ≡ list_any (λ y. q y && p y) xs → (b : Bool)
        → list_any p (cond b (x ∷ filter q xs) (filter q xs)) ≡ ((b && p x) || list_any (λ y. q y && p y) xs)
    by rest true = ap (λ b. p x || b) rest
    by rest false = rest

-- what holds of all of a list holds of all that is left of it
pub kept_each : {X : Type 0} (P : X → Type 0) (p : X → Bool) (xs : List X) → AllByRecursion P xs → AllByRecursion P (filter p xs)
kept_each P p [] all = tt
kept_each {X} P p (x ∷ xs) all = by (kept_each P p xs all.1) (p x)
  where
    by : AllByRecursion P (filter p xs) → (b : Bool) → AllByRecursion P (cond b (x ∷ filter p xs) (filter p xs))
    by rest true = (all.0, rest)
    by rest false = rest

-- a test passes in a mapped list where it passes of an image
pub any_map : {X Y : Type 0} (p : Y → Bool) (f : X → Y) (xs : List X) → list_any p (map f xs) ≡ list_any (λ x. p (f x)) xs
any_map p f [] = refl
any_map p f (x ∷ xs) = ap (λ b. p (f x) || b) (any_map p f xs)

-- a test passes in lists one after the other where it passes in one of them
pub any_flat : {X Y : Type 0} (p : Y → Bool) (f : X → List Y) (xs : List X)
    → list_any p (flat_map f xs) ≡ list_any (λ x. list_any p (f x)) xs
any_flat p f [] = refl
any_flat p f (x ∷ xs) = list_any-append p (f x) (flat_map f xs) ∙ ap (λ b. list_any p (f x) || b) (any_flat p f xs)
