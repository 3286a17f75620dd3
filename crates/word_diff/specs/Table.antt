-- The table of the lengths of longest common subsequences. No public contract cites it.
use Rattle.std.specs.Prelude.{ℕ, ◌+◌, max, List, [], ◌∷◌, ◌++◌, map, if◌then◌else◌}
use Rattle.std.specs.Global.{Vec}
use Rattle.word_diff.specs.Words.{same_word}

-- the lengths for x and then some words, where f has them for these words alone
unfoldable pub row_len : List ℕ → (List (List ℕ) → ℕ) → List (List ℕ) → ℕ
row_len x f [] = 0
row_len x f (y ∷ ys) = if same_word x y then f ys + 1 else max (f (y ∷ ys)) (row_len x f ys)

-- how many words a longest common subsequence has
unfoldable pub common_len : List (List ℕ) → List (List ℕ) → ℕ
common_len [] ys = 0
common_len (x ∷ xs) ys = row_len x (common_len xs) ys

-- that number for each end of ys, from the empty one on
unfoldable pub row_of : List (List ℕ) → List (List ℕ) → List ℕ
row_of xs [] = common_len xs [] ∷ []
row_of xs (y ∷ ys) = row_of xs ys ++ common_len xs (y ∷ ys) ∷ []

-- that row for each end of xs, from the empty one on
unfoldable pub table_of : List (List ℕ) → List (List ℕ) → List (List ℕ)
table_of [] ys = row_of [] ys ∷ []
table_of (x ∷ xs) ys = table_of xs ys ++ row_of (x ∷ xs) ys ∷ []

-- the numbers of each row
abbrev pub rows : List (Vec ℕ) → List (List ℕ)
rows list = map (λ row. row.items) list
