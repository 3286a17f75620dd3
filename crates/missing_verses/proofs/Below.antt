-- The numbers below another, and the flags of them.
use Rattle.std.proofs.Common.{◌≡◌, ℕ, zero, suc, ◌+◌, ◌-◌, ◌<◌, Bool, true, false, ◌||◌, List, [], ◌∷◌, ◌++◌, length, map, get_or, arith, refl, sym, ap, ◌∙◌, ⊎_elim}
use Rattle.std.proofs.str.Laws.{order}
use Rattle.std.specs.List.{flat_map, list_any}
use Rattle.std.proofs.lemmas.Grind.{flat_map-append, common_steps}
use Rattle.std.proofs.lemmas.List.{map-append, length-map, get_or_append_left, get_or-append_right}
use Rattle.missing_verses.specs.Numbers.{below}

below_suc : (n : ℕ) → below (suc n) ≡ below n ++ n ∷ []
unfolding below
below_suc n = refl

-- there are as many numbers below n
pub length-below : (n : ℕ) → length (below n) ≡ n
unfolding below
length-below zero = refl
length-below (suc n) = grind (arith, common_steps, length-below n)

-- a list and nothing
pub append_none : {X : Type 0} (xs : List X) → xs ++ [] ≡ xs
append_none [] = refl
append_none {X} (x ∷ xs) = ap (λ (ys : List X). x ∷ ys) (append_none xs)

-- what a function gives of the numbers up to one more
pub below_more : {X : Type 0} (f : ℕ → List X) (n : ℕ) → flat_map f (below (n + 1)) ≡ flat_map f (below n) ++ f n
below_more {X} f n =
    let e : n + 1 ≡ suc n = omega arith in
    ap (λ k. flat_map f (below k)) e ∙ ap (flat_map f) (below_suc n) ∙ flat_map-append f (below n) (n ∷ [])
    ∙ ap (λ (xs : List X). flat_map f (below n) ++ xs) (append_none (f n))

-- of no numbers nothing
pub below_none : {X : Type 0} (f : ℕ → List X) → flat_map f (below 0) ≡ []
unfolding below
below_none f = refl

-- the flags of no numbers
pub flags_none : (p : ℕ → Bool) → map p (below 0) ≡ []
unfolding below
flags_none p = refl

-- the flags of the numbers up to one more
pub flags_more : (p : ℕ → Bool) (n : ℕ) → map p (below (n + 1)) ≡ map p (below n) ++ p n ∷ []
flags_more p n =
    let e : n + 1 ≡ suc n = omega arith in
    ap (λ k. map p (below k)) e ∙ ap (map p) (below_suc n) ∙ map-append p (below n) (n ∷ [])

-- one flag more
pub flag_more : (p : ℕ → Bool) (n : ℕ) (xs ys : List Bool) (r : Bool) → ys ≡ xs ++ r ∷ [] → xs ≡ map p (below n) → r ≡ p n
    → ys ≡ map p (below (n + 1))
flag_more p n xs ys r e so is = e ∙ (λ i. so i ++ is i ∷ []) ∙ sym (flags_more p n)

-- the flag of a number
pub flag_at : (p : ℕ → Bool) (m n : ℕ) → n < m → get_or (map p (below m)) n false ≡ p n
flag_at p zero n l = absurd (omega (arith, l))
flag_at p (suc m) n l =
    let e = ap (map p) (below_suc m) ∙ map-append p (below m) (m ∷ []) in
    let many : length (map p (below m)) ≡ m = length-map (below m) p ∙ length-below m in
    ap (λ (fs : List Bool). get_or fs n false) e ∙ ⊎_elim
    (λ low. get_or_append_left (map p (below m)) (p m ∷ []) false n (omega (arith, many, low)) ∙ flag_at p m n low)
    (λ high. let is : n ≡ m = omega (arith, l, high) in
    get_or-append_right (map p (below m)) (p m ∷ []) m n false many high
    ∙ ap (λ k. get_or (p m ∷ []) (k - m) false) is
    ∙ ap (λ k. get_or (p m ∷ []) k false) (let z : m - m ≡ 0 = omega arith in z)
    ∙ ap p (sym is))
    (order n m)

-- where nothing is given of any of the numbers, nothing is given of them
pub all_none : {X : Type 0} (f : ℕ → List X) (m : ℕ) → ((n : ℕ) → n < m → f n ≡ []) → flat_map f (below m) ≡ []
all_none f zero h = below_none f
all_none f (suc m) h =
    let e : suc m ≡ m + 1 = omega arith in
    ap (λ k. flat_map f (below k)) e ∙ below_more f m
    ∙ (λ i. all_none f m (λ n l. h n (omega (arith, l))) i ++ h m (omega arith) i)

front_none : {X : Type 0} (xs ys : List X) → xs ++ ys ≡ [] → xs ≡ []
front_none [] ys e = refl
front_none (x ∷ xs) ys e = cc e

back_none : {X : Type 0} (xs ys : List X) → xs ++ ys ≡ [] → ys ≡ []
back_none [] ys e = e
back_none (x ∷ xs) ys e = cc e

-- two lists that join to none are none
pub both_none : {X : Type 0} (xs ys : List X) → xs ++ ys ≡ [] → (xs ≡ []) × (ys ≡ [])
both_none xs ys e = (front_none xs ys e, back_none xs ys e)

-- and where nothing is given of them, nothing is given of each
pub none_each : {X : Type 0} (f : ℕ → List X) (m : ℕ) → flat_map f (below m) ≡ [] → (n : ℕ) → n < m → f n ≡ []
none_each f zero e n l = absurd (omega (arith, l))
none_each f (suc m) e n l =
    let k : suc m ≡ m + 1 = omega arith in
    let p = both_none (flat_map f (below m)) (f m) (sym (ap (λ k. flat_map f (below k)) k ∙ below_more f m) ∙ e) in
    ⊎_elim
    (λ low. none_each f m p.0 n low)
    (λ high. let is : n ≡ m = omega (arith, l, high) in ap f is ∙ p.1)
    (order n m)

-- of no numbers none passes
pub any_below_none : (p : ℕ → Bool) → list_any p (below 0) ≡ false
unfolding below
any_below_none p = refl

any_last : (p : ℕ → Bool) (xs : List ℕ) (n : ℕ) → list_any p (xs ++ n ∷ []) ≡ (list_any p xs || p n)
any_last p [] n = or_false (p n)
  where
    or_false : (b : Bool) → (b || false) ≡ b
    or_false true = refl
    or_false false = refl
any_last p (x ∷ xs) n = by (p x) (any_last p xs n)
  where
    by : (b : Bool) → list_any p (xs ++ n ∷ []) ≡ (list_any p xs || p n)
        → (b || list_any p (xs ++ n ∷ [])) ≡ ((b || list_any p xs) || p n)
    by true e = refl
    by false e = e

-- whether one of the numbers up to one more passes
pub any_below_more : (p : ℕ → Bool) (n : ℕ) → list_any p (below (n + 1)) ≡ (list_any p (below n) || p n)
any_below_more p n =
    let e : n + 1 ≡ suc n = omega arith in
    ap (λ k. list_any p (below k)) e ∙ ap (list_any p) (below_suc n) ∙ any_last p (below n) n

-- where none of the numbers passes, none is found among them
pub any_none : (p : ℕ → Bool) (m : ℕ) → ((n : ℕ) → n < m → p n ≡ false) → list_any p (below m) ≡ false
any_none p zero h = any_below_none p
any_none p (suc m) h =
    let e : suc m ≡ m + 1 = omega arith in
    ap (λ k. list_any p (below k)) e ∙ any_below_more p m
    ∙ (λ i. any_none p m (λ n l. h n (omega (arith, l))) i || h m (omega arith) i)

-- and where none is found, none passes
pub none_any : (p : ℕ → Bool) (m : ℕ) → list_any p (below m) ≡ false → (n : ℕ) → n < m → p n ≡ false
none_any p zero e n l = absurd (omega (arith, l))
none_any p (suc m) e n l =
    let k : suc m ≡ m + 1 = omega arith in
    let two = neither (list_any p (below m)) (p m) (sym (ap (λ k. list_any p (below k)) k ∙ any_below_more p m) ∙ e) in
    ⊎_elim
    (λ low. none_any p m two.0 n low)
    (λ high. let is : n ≡ m = omega (arith, l, high) in ap p is ∙ two.1)
    (order n m)
  where
    neither : (a b : Bool) → (a || b) ≡ false → (a ≡ false) × (b ≡ false)
    neither true b e = cc e
    neither false b e = (refl, e)
