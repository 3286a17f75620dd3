-- Laws of the days that are kept (this project's own rule).
use Rattle.std.specs.Prelude.{◌≡◌, ℕ, ◌≤◌, true, not, List, length, filter}
use Rattle.std.specs.List.{list_all}
use Rattle.kept_days.specs.Days.{AreInOrder, from_day, is_before, to_go, to_stay}

-- Of days in their order those answer that are not before the one that is asked for, and so the
-- first of them is the earliest.
abbrev pub EarliestAnswers : Type 0
EarliestAnswers =
    (asked : List ℕ) (days : List (List ℕ)) → AreInOrder days
    → from_day asked days ≡ filter (λ day. not (is_before day asked)) days

-- Of days in their order none that stays is before one that goes, and no more than 400 stay.
abbrev pub NewestStay : Type 0
NewestStay =
    (days : List (List ℕ)) → AreInOrder days
    → (list_all (λ gone. list_all (λ stays. not (is_before stays gone)) (to_stay days)) (to_go days)
    ≡ true) × (length (to_stay days) ≤ 400)
