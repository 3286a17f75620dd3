-- Common subsequences of two lists of words, as the literature on comparing texts has them. That
-- long texts are compared by their ends alone, and from how many words on, is this project's own
-- rule.
use Rattle.std.specs.Prelude.{◌≡◌, ℕ, ◌-◌, ◌<◌, ◌≤◌, max, List, [], ◌∷◌, ◌++◌, ◌⊎◌, length, take, drop, reverse}
use Rattle.std.specs.List.{common_prefix_len}
use Rattle.word_diff.specs.Words.{same_word}

-- zs is ys with some words left out, in the same order: it is taken from what follows the first of
-- ys, or it is that first one and then taken from what follows
abbrev pub IsSubsequence : List (List ℕ) → List (List ℕ) → Type 0
IsSubsequence zs [] = zs ≡ []
IsSubsequence zs (y ∷ ys) =
    IsSubsequence zs ys ⊎ ((rest : List (List ℕ)) × (zs ≡ y ∷ rest) × IsSubsequence rest ys)

-- zs is a subsequence of both
pub record IsCommonSubsequence (zs xs ys : List (List ℕ)) : Type 0 where
  pub of_first : IsSubsequence zs xs
  pub of_second : IsSubsequence zs ys

-- no common subsequence of xs and ys is longer than zs
abbrev pub IsLongest : List (List ℕ) → List (List ℕ) → List (List ℕ) → Type 0
IsLongest zs xs ys =
    (other : List (List ℕ)) → IsCommonSubsequence other xs ys → length other ≤ length zs

-- how many words two lists have in common at their front
abbrev pub front_len : List (List ℕ) → List (List ℕ) → ℕ
front_len xs ys = common_prefix_len same_word xs ys

-- how many words two lists have in common at their end
abbrev pub end_len : List (List ℕ) → List (List ℕ) → ℕ
end_len xs ys = front_len (reverse xs) (reverse ys)

-- the longest common front, and then the longest common end of what follows it in both
abbrev pub common_ends : List (List ℕ) → List (List ℕ) → List (List ℕ)
common_ends xs ys =
    let front = front_len xs ys in
    let end = end_len (drop front xs) (drop front ys) in take front xs ++ drop (length xs - end) xs

-- neither list has more than 2,000 words
abbrev pub AreFew : List (List ℕ) → List (List ℕ) → Type 0
AreFew xs ys = max (length xs) (length ys) ≤ 2000

-- one of them has more
abbrev pub AreMany : List (List ℕ) → List (List ℕ) → Type 0
AreMany xs ys = 2000 < max (length xs) (length ys)
