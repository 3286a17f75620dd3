-- Names of days, and which of those that are kept answer, stay and go (this project's own rule).
use Rattle.std.specs.Prelude.{ℕ, ◌-◌, ◌==◌, Bool, false, ◌&&◌, List, [], ◌∷◌, length, take, drop, map, if◌then◌else◌}
use Rattle.std.specs.Borrow.{Bor}
use Rattle.std.specs.Cmp.Lexicographic.{slice_cmp}
use Rattle.std.specs.Char.{is_ascii_digit}
use Rattle.std.specs.List.{list_all}
use Rattle.std.specs.List.Sorted.{IsSorted}
use Rattle.std.specs.Ordering.{is_lt, nat_cmp}

-- the bytes of each of these texts, and not where they lie in memory
abbrev pub texts : List (Bor (List ℕ)) → List (List ℕ)
texts list = map (λ text. text.now) list

-- whether bytes begin with a hyphen (45)
abbrev pub has_hyphen : List ℕ → Bool
has_hyphen [] = false
has_hyphen (b ∷ bs) = b == 45

-- Whether a name is spelled as a day, as 2026-11-24: ten bytes, of which four are digits, one is a
-- hyphen, two are digits, one is a hyphen, and two are digits.
abbrev pub is_day : List ℕ → Bool
is_day name =
    length name == 10 && has_hyphen (drop 4 name) && has_hyphen (drop 7 name)
    && list_all is_ascii_digit (take 4 name) && list_all is_ascii_digit (take 2 (drop 5 name))
    && list_all is_ascii_digit (drop 8 name)

-- whether a day is before another one: by the bytes of their names
abbrev pub is_before : List ℕ → List ℕ → Bool
is_before day other = is_lt (slice_cmp nat_cmp day other)

-- days in their order
abbrev pub AreInOrder : List (List ℕ) → Type 0
AreInOrder days = IsSorted (slice_cmp nat_cmp) days

-- the days from the first on that is not before the one that is asked for
unfoldable pub from_day : List ℕ → List (List ℕ) → List (List ℕ)
from_day asked [] = []
from_day asked (day ∷ later) =
    if is_before day asked then from_day asked later else day ∷ later

-- those that go: all but the last 400
abbrev pub to_go : List (List ℕ) → List (List ℕ)
to_go days = take (length days - 400) days

-- those that stay
abbrev pub to_stay : List (List ℕ) → List (List ℕ)
to_stay days = drop (length days - 400) days
