-- The length of a longest common subsequence, as a table gives it.
use Rattle.std.proofs.Common.{◌≡◌, ℕ, ◌+◌, ◌≤◌, Bool, true, false, List, [], ◌∷◌, length, refl, ap, subst, ⊎_elim, arith, cond}
use Rattle.std.specs.Prelude.{max}
use Rattle.std.specs.Cmp.Lexicographic.{same_text, other_text}
use Rattle.word_diff.specs.Words.{same_word}
use Rattle.word_diff.specs.Common.{IsSubsequence}
use Rattle.word_diff.specs.Table.{common_len, row_len}
use Rattle.word_diff.proofs.Subsequences.{AtMost, at_most-front}

row_le : (x : List ℕ) (f : List (List ℕ) → ℕ) (n : ℕ) → ((ys : List (List ℕ)) → f ys ≤ n) → (ys : List (List ℕ)) → row_len x f ys ≤ n + 1
unfolding row_len
row_le x f n le [] = omega arith
row_le x f n le (y ∷ ys) = elim (same_word x y) as (λ b. cond b (f ys + 1) (max (f (y ∷ ys)) (row_len x f ys)) ≤ n + 1) [
  | true ↦ omega (arith, le ys)
  | false ↦ omega (arith, le (y ∷ ys), row_le x f n le ys)
]

-- it has no more than the first list
pub common_len-le : (xs ys : List (List ℕ)) → common_len xs ys ≤ length xs
unfolding common_len
common_len-le [] ys = omega arith
common_len-le (x ∷ xs) ys = omega (arith, row_le x (common_len xs) (length xs) (common_len-le xs) ys)

none_left : (ys : List (List ℕ)) → AtMost [] ys 0
none_left ys = record { bound = λ zs h k. omega (arith, ap length h) }

none_right : (xs : List (List ℕ)) → AtMost xs [] 0
none_right xs = record { bound = λ zs h k. omega (arith, ap length k) }

by_test : (x y : List ℕ) (xs ys : List (List ℕ)) (n left right : ℕ) (b : Bool) → b ≡ same_word x y
    → AtMost xs ys n → AtMost xs (y ∷ ys) left → AtMost (x ∷ xs) ys right → AtMost (x ∷ xs) (y ∷ ys) (cond b (n + 1) (max left right))
by_test x y xs ys n left right true is both skip_x skip_y =
    let same : x ≡ y = same_text x y is in
    let one : 1 + n ≡ n + 1 = omega arith in
    subst (λ (w : List ℕ). AtMost (x ∷ xs) (w ∷ ys) (n + 1)) same (subst (AtMost (x ∷ xs) (x ∷ ys)) one (at_most-front
    (x ∷ []) xs ys n both))
by_test x y xs ys n left right false is both skip_x skip_y = record {
  bound = λ zs h k.
      ⊎_elim (λ skipped. omega (arith, skip_x.bound zs skipped k))
      (λ (s : (rest : List (List ℕ)) × (zs ≡ x ∷ rest) × IsSubsequence rest xs). ⊎_elim
      (λ skipped. omega (arith, skip_y.bound zs h skipped))
      (λ (t : (rest : List (List ℕ)) × (zs ≡ y ∷ rest) × IsSubsequence rest ys).
      let p = s.1 in let q = t.1 in let same : x ≡ y = cc in absurd (other_text x y is same))
      k)
      h;
}

row_most : (x : List ℕ) (xs : List (List ℕ)) → ((ys : List (List ℕ)) → AtMost xs ys (common_len xs ys))
    → (ys : List (List ℕ)) → AtMost (x ∷ xs) ys (row_len x (common_len xs) ys)
unfolding row_len
row_most x xs most [] = none_right (x ∷ xs)
row_most x xs most (y ∷ ys) = by_test x y xs ys (common_len xs ys) (common_len xs (y ∷ ys)) (row_len x (common_len xs) ys)
    (same_word x y) refl (most ys) (most (y ∷ ys)) (row_most x xs most ys)

-- no common subsequence is longer
pub common_len-most : (xs ys : List (List ℕ)) → AtMost xs ys (common_len xs ys)
unfolding common_len
common_len-most [] ys = none_left ys
common_len-most (x ∷ xs) ys = row_most x xs (common_len-most xs) ys

row_grows : (x : List ℕ) (f : List (List ℕ) → ℕ) → ((y : List ℕ) (ys : List (List ℕ)) → f ys ≤ f (y ∷ ys)) → (ys : List (List ℕ))
    → row_len x f ys ≤ f ys + 1
unfolding row_len
row_grows x f grows [] = omega arith
row_grows x f grows (y ∷ ys) = elim (same_word x y) as (λ b. cond b (f ys + 1) (max (f (y ∷ ys)) (row_len x f ys)) ≤ f (y ∷ ys) + 1) [
  | true ↦ omega (arith, grows y ys)
  | false ↦ omega (arith, grows y ys, row_grows x f grows ys)
]

-- one word more leaves no less in common
pub common_len-grows : (xs : List (List ℕ)) (y : List ℕ) (ys : List (List ℕ)) → common_len xs ys ≤ common_len xs (y ∷ ys)
unfolding common_len row_len
common_len-grows [] y ys = omega arith
common_len-grows (x ∷ xs) y ys = elim (same_word x y) as (λ b. row_len x (common_len xs) ys ≤ cond b (common_len xs ys + 1) (max
    (common_len xs (y ∷ ys)) (row_len x (common_len xs) ys))) [
      | true ↦ row_grows x (common_len xs) (common_len-grows xs) ys
      | false ↦ omega arith
    ]
