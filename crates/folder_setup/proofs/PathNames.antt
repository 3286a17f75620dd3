-- The names in a path, one after another.
use Rattle.std.proofs.Common.{◌≡◌, ◌<◌, ◌==◌, ℕ, Bool, true, false, List, [], ◌∷◌, ◌++◌, length, arith, ap, refl, append-nil, ◌∙◌}
use Rattle.std.proofs.lemmas.Bool.Decides.{nat_tests}
use Rattle.std.proofs.lemmas.List.Splits.{slice_split_first}
use Rattle.std.specs.List.{position_or_len, before_first, after_first, slice_split, onto_first, flat_map}
use Rattle.folder_setup.specs.Paths.{is_slash, name_if, names_of}

-- the name before the first slash, and then those of what follows it
pub names_of_first : (path : List ℕ) → position_or_len is_slash path < length path
    → names_of path ≡ name_if (before_first is_slash path) ++ names_of (after_first is_slash path)
names_of_first path h = ap (flat_map name_if) (slice_split_first is_slash path 0 h)

split_last : (path : List ℕ) → position_or_len is_slash path ≡ length path → slice_split is_slash path ≡ path ∷ []
split_last [] h = refl
split_last (b ∷ rest) h = by (split_last rest) (b == 47) refl
  where
    by : (position_or_len is_slash rest ≡ length rest → slice_split is_slash rest ≡ rest ∷ []) → (is : Bool) → (b == 47) ≡ is
        → slice_split is_slash (b ∷ rest) ≡ (b ∷ rest) ∷ []
    by later true e = absurd (grind (arith, nat_tests, h, e))
    by later false e = rw e (ap (onto_first b) (later (grind (arith, nat_tests, h, e))))

-- the name of a path without a slash
pub names_of_last : (path : List ℕ) → position_or_len is_slash path ≡ length path → names_of path ≡ name_if path
names_of_last path h = ap (flat_map name_if) (split_last path h) ∙ append-nil (name_if path)
