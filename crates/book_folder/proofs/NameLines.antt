-- Texts of lines `CODE NAME`, by their lines.
use Rattle.std.proofs.Common.{◌≡◌, ◌<◌, ◌==◌, ℕ, Bool, true, false, List, [], ◌∷◌, ◌++◌, Option, Some, None, length, arith, ap, refl, ◌∙◌}
use Rattle.std.proofs.lemmas.Bool.Decides.{nat_tests}
use Rattle.std.proofs.lemmas.List.Splits.{slice_split_first}
use Rattle.std.specs.List.{position_or_len, before_first, after_first, slice_split, onto_first, filter_map, cons_option}
use Rattle.book_folder.specs.Naming.{name_in, names_in}
use Rattle.book_folder.specs.Taking.{listed}
use Rattle.book_folder.specs.Wanted.{NamedParts}

-- whether a byte is an LF
abbrev pub is_lf : ℕ → Bool
is_lf b = b == 10

first_listed : (n : Option NamedParts) (names : List NamedParts) → cons_option n names ≡ listed n ++ names
first_listed None names = refl
first_listed (Some n) names = refl

-- the name of the line before the first LF, and then those of what follows it
pub names_in_line : (text : List ℕ) → position_or_len is_lf text < length text
    → names_in text ≡ listed (name_in (before_first is_lf text)) ++ names_in (after_first is_lf text)
names_in_line text h =
    ap (filter_map name_in) (slice_split_first is_lf text 0 h)
    ∙ first_listed (name_in (before_first is_lf text)) (names_in (after_first is_lf text))

split_last : (text : List ℕ) → position_or_len is_lf text ≡ length text → slice_split is_lf text ≡ text ∷ []
split_last [] h = refl
split_last (b ∷ rest) h = by (split_last rest) (b == 10) refl
  where
    by : (position_or_len is_lf rest ≡ length rest → slice_split is_lf rest ≡ rest ∷ []) → (is : Bool) → (b == 10) ≡ is
        → slice_split is_lf (b ∷ rest) ≡ (b ∷ rest) ∷ []
    by later true e = absurd (grind (arith, nat_tests, h, e))
    by later false e = rw e (ap (onto_first b) (later (grind (arith, nat_tests, h, e))))

-- the name of the one line of a text without an LF
pub names_in_last : (text : List ℕ) → position_or_len is_lf text ≡ length text → names_in text ≡ listed (name_in text)
names_in_last text h =
    ap (filter_map name_in) (split_last text h) ∙ first_listed (name_in text) [] ∙ last (name_in text)
  where
    last : (n : Option NamedParts) → listed n ++ [] ≡ listed n
    last None = refl
    last (Some n) = refl
