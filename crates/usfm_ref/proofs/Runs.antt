-- The longest run of items at the front of a list that pass a test.
use Rattle.std.proofs.Common.{◌≡◌, ℕ, suc, ◌+◌, Bool, true, false, not, List, [], ◌∷◌, ◌++◌, length, take, drop, refl, arith}
use Rattle.std.specs.List.{list_all, prefix_len}

-- no item at the front passes
abbrev pub stops : {X : Type 0} → (X → Bool) → List X → Bool
stops p [] = true
stops p (x ∷ xs) = not (p x)

one_more : (n : ℕ) → 1 + n ≡ suc n
one_more n = omega arith

-- items that pass, before a list that stops, are the run
pub prefix_len-run : {X : Type 0} (p : X → Bool) (xs ys : List X) → list_all p xs ≡ true → stops p ys ≡ true
    → prefix_len p (xs ++ ys) ≡ length xs
prefix_len-run p [] [] h s = refl
prefix_len-run p [] (y ∷ ys) h s = grind arith
prefix_len-run p (x ∷ xs) ys h s = grind (arith, prefix_len-run p xs ys)

-- the run passes
pub list_all-run : {X : Type 0} (p : X → Bool) (xs : List X) → list_all p (take (prefix_len p xs) xs) ≡ true
list_all-run p [] = refl
list_all-run p (x ∷ xs) = step (p x) refl (list_all-run p xs)
  where
    step : (b : Bool) → p x ≡ b → list_all p (take (prefix_len p xs) xs) ≡ true → list_all p (take (prefix_len p (x ∷ xs)) (x ∷ xs)) ≡ true
    step true e others = rw (e, one_more, e) others
    step false e others = rw e refl

-- what is after the run stops
pub stops-run : {X : Type 0} (p : X → Bool) (xs : List X) → stops p (drop (prefix_len p xs) xs) ≡ true
stops-run p [] = refl
stops-run p (x ∷ xs) = step (p x) refl (stops-run p xs)
  where
    step : (b : Bool) → p x ≡ b → stops p (drop (prefix_len p xs) xs) ≡ true → stops p (drop (prefix_len p (x ∷ xs)) (x ∷ xs)) ≡ true
    step true e others = rw (e, one_more) others
    step false e others = rw (e, e) refl
