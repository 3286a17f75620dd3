-- Days in their order.
use Rattle.std.proofs.Common.{◌≡◌, ℕ, zero, suc, ◌+◌, ◌≤◌, Bool, true, false, not, ◌&&◌, List, [], ◌∷◌, length, take, drop, filter, get_or, cond, refl, ap, sym, ◌∙◌, arith}
use Rattle.std.proofs.lemmas.Bool.{and_parts}
use Rattle.std.proofs.lemmas.Cmp.{nat_list_cmp_total}
use Rattle.std.proofs.lemmas.List.Sorted.{ranks_by}
use Rattle.std.specs.Cmp.{IsStrictWeakOrder}
use Rattle.std.specs.List.{list_all}
use Rattle.kept_days.specs.Days.{AreInOrder, from_day, is_before}

abbrev Day : Type 0
Day = List ℕ

order : IsStrictWeakOrder is_before
order = ranks_by nat_list_cmp_total (λ (day : Day). day)

-- whether no day of a list is before a day
abbrev is_least : Day → List Day → Bool
is_least day days = list_all (λ other. not (is_before other day)) days

-- whether no day is before an earlier one of its list
abbrev are_rising : List Day → Bool
are_rising [] = true
are_rising (day ∷ later) = is_least day later && are_rising later

and_true : (a b : Bool) → a ≡ true → b ≡ true → (a && b) ≡ true
and_true a b p q = ap (λ (c : Bool). c && b) p ∙ q

not_false : (b : Bool) → not b ≡ true → b ≡ false
not_false true h = sym h
not_false false h = refl

least_more : (day next : Day) (later : List Day) → is_before next day ≡ false → is_least next later ≡ true → is_least day later ≡ true
least_more day next [] h all = refl
least_more day next (other ∷ later) h all =
    let parts = and_parts (not (is_before other next)) (is_least next later) all in
    and_true (not (is_before other day)) (is_least day later)
    (ap not (order.chain other next day (not_false (is_before other next) parts.0) h)) (least_more day next later h parts.1)

sorted_tail : (day : Day) (later : List Day) → AreInOrder (day ∷ later) → AreInOrder later
sorted_tail day later h k d a b =
    let one : suc k ≡ k + 1 = omega arith in
    let two : suc (k + 1) ≡ k + 1 + 1 = omega arith in
    (λ i. is_before (get_or (day ∷ later) (two i) d) (get_or (day ∷ later) (one i) d)) ∙ h (k + 1) d (omega arith) (omega (arith, b))

-- sorted days rise
pub rising_sorted : (days : List Day) → AreInOrder days → are_rising days ≡ true
rising_sorted [] h = refl
rising_sorted (day ∷ []) h = refl
rising_sorted (day ∷ (next ∷ later)) h =
    let rest = rising_sorted (next ∷ later) (sorted_tail day (next ∷ later) h) in
    let parts = and_parts (is_least next later) (are_rising later) rest in
    let first : is_before next day ≡ false = h 0 day (omega arith) (omega arith) in
    and_true (is_least day (next ∷ later)) (are_rising (next ∷ later))
    (and_true (not (is_before next day)) (is_least day later) (ap not first) (least_more day next later first parts.0)) rest

abbrev is_late : Day → Day → Bool
is_late asked day = not (is_before day asked)

all_late : (asked day : Day) (later : List Day) → is_before day asked ≡ false → is_least day later ≡ true
    → filter (is_late asked) later ≡ later
all_late asked day [] h all = refl
all_late asked day (other ∷ later) h all =
    let parts = and_parts (not (is_before other day)) (is_least day later) all in
    let late : is_before other asked ≡ false = order.chain other day asked (not_false (is_before other day) parts.0) h in
    ap (λ (b : Bool). cond (not b) (other ∷ filter (is_late asked) later) (filter (is_late asked) later)) late
    ∙ ap (λ (l : List Day). other ∷ l) (all_late asked day later h parts.1)

-- of rising days those answer that are not before the one that is asked for
pub late_answer : (asked : Day) (days : List Day) → are_rising days ≡ true → from_day asked days ≡ filter (is_late asked) days
unfolding from_day
late_answer asked [] h = refl
late_answer asked (day ∷ later) h =
    by (late_answer asked later (and_parts (is_least day later) (are_rising later) h).1) (is_before day asked) refl
  where
    parts : (is_least day later ≡ true) × (are_rising later ≡ true)
    parts = and_parts (is_least day later) (are_rising later) h

    by : from_day asked later ≡ filter (is_late asked) later → (b : Bool) → is_before day asked ≡ b
        → cond b (from_day asked later) (day ∷ later) ≡ cond (not b) (day ∷ filter (is_late asked) later) (filter (is_late asked) later)
    by rest true e = rest
    by rest false e = ap (λ (l : List Day). day ∷ l) (sym (all_late asked day later e parts.0))

least_drop : (n : ℕ) (day : Day) (days : List Day) → is_least day days ≡ true → is_least day (drop n days) ≡ true
least_drop zero day days h = h
least_drop (suc n) day [] h = refl
least_drop (suc n) day (other ∷ later) h =
    least_drop n day later (and_parts (not (is_before other day)) (is_least day later) h).1

-- of rising days none after some is before one of these
pub rest_late : (n : ℕ) (days : List Day) → are_rising days ≡ true
    → list_all (λ gone. is_least gone (drop n days)) (take n days) ≡ true
rest_late zero days h = refl
rest_late (suc n) [] h = refl
rest_late (suc n) (day ∷ later) h =
    let parts = and_parts (is_least day later) (are_rising later) h in
    and_true (is_least day (drop n later)) (list_all (λ gone. is_least gone (drop n later)) (take n later))
    (least_drop n day later parts.0) (rest_late n later parts.1)
