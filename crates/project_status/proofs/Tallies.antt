-- The tally of a chapter with a verse more.
use Rattle.std.proofs.Common.{◌≡◌, ℕ, zero, suc, ◌+◌, ◌-◌, ◌<◌, ◌≤◌, max, Bool, true, false, cond, ◌&&◌, ◌||◌, nat_le, List, [], ◌∷◌, ◌++◌, filter, arith, refl, sym, ap, ◌∙◌}
use Rattle.std.specs.List.{list_any, AllByRecursion}
use Rattle.std.proofs.Math.Bool.{or-false}
use Rattle.std.proofs.lemmas.Bool.{true≢false, false≢true, and_parts}
use Rattle.std.proofs.lemmas.Bool.Decides.{nat_tests}
use Rattle.std.proofs.lemmas.List.Elements.{filter-append}
use Rattle.std.proofs.lemmas.List.Folds.{list_any-append}
use Rattle.project_status.specs.declared.verses.Verse.{Verse}
use Rattle.project_status.specs.Progress.{writes, greatest, count_to, count_written}
use Rattle.project_status.specs.Loops.Tallies.{none_counted, tally_of, with_verse}
use Rattle.project_status.proofs.Counts.{count_none, count_same, count_beyond, count_within, count_added}

abbrev written_of : List Verse → List Verse
written_of vs = filter (λ v. v.written) vs

-- whether a number is written in one of the verses
abbrev is_in : List Verse → ℕ → Bool
is_in vs n = list_any (writes n) vs

-- ---- the greatest number

greatest_more : (vs : List Verse) (v : Verse) → greatest (vs ++ v ∷ []) ≡ max (greatest vs) v.last
greatest_more [] v = omega arith
greatest_more (w ∷ vs) v = let rest = greatest_more vs v in omega (arith, rest)

reached_more : (vs : List Verse) (v : Verse) (b : Bool) → v.written ≡ b
    → greatest (written_of (vs ++ v ∷ [])) ≡ cond b (max (greatest (written_of vs)) v.last) (greatest (written_of vs))
reached_more vs v true e =
    ap greatest (filter-append (λ (w : Verse). w.written) vs (v ∷ []) ∙ ap (λ b. written_of vs ++ cond b (v ∷ []) []) e)
    ∙ greatest_more (written_of vs) v
reached_more vs v false e =
    ap greatest (filter-append (λ (w : Verse). w.written) vs (v ∷ []) ∙ ap (λ b. written_of vs ++ cond b (v ∷ []) []) e
    ∙ none (written_of vs))
  where
    none : (ws : List Verse) → ws ++ [] ≡ ws
    none [] = refl
    none (w ∷ ws) = ap (λ (xs : List Verse). w ∷ xs) (none ws)

reached_within : (vs : List Verse) → greatest (written_of vs) ≤ greatest vs
reached_within [] = omega arith
reached_within (v ∷ vs) = by (reached_within vs) v.written
  where
    by : greatest (written_of vs) ≤ greatest vs → (b : Bool)
        → greatest (cond b (v ∷ written_of vs) (written_of vs)) ≤ max v.last (greatest vs)
    by rest true = omega (arith, rest)
    by rest false = omega (arith, rest)

-- ---- which numbers are written

-- a verse writes what is from its first to its last number, if it is written
writes_yes : (n : ℕ) (v : Verse) → v.written ≡ true → v.first ≤ n → n ≤ v.last → writes n v ≡ true
writes_yes n v w a b = rw w (grind (arith, nat_tests, a, b))

writes_parts : (n : ℕ) (v : Verse) → writes n v ≡ true → (v.written ≡ true) × ((v.first ≤ n) × (n ≤ v.last))
writes_parts n v h =
    let p = and_parts v.written (nat_le v.first n && nat_le n v.last) h in
    let q = and_parts (nat_le v.first n) (nat_le n v.last) p.1 in (
      p.0,
      (grind (arith, nat_tests, q.0), grind (arith, nat_tests, q.1)),
    )

-- nothing above the greatest number that is written
pub is_in_below : (n : ℕ) (vs : List Verse) → is_in vs n ≡ true → n ≤ greatest (written_of vs)
is_in_below n [] h = absurd (false≢true h)
is_in_below n (v ∷ vs) h = by (is_in_below n vs) (writes n v) refl h
  where
    by : (is_in vs n ≡ true → n ≤ greatest (written_of vs)) → (b : Bool) → writes n v ≡ b → (b || is_in vs n) ≡ true
        → n ≤ greatest (cond v.written (v ∷ written_of vs) (written_of vs))
    by rest true e t = let p = writes_parts n v e in rw p.0 (omega (arith, p.1.1))
    by rest false e t = later v.written
      where
        later : (b : Bool) → n ≤ greatest (cond b (v ∷ written_of vs) (written_of vs))
        later true = omega (arith, rest t)
        later false = rest t

or_then : (a b : Bool) → b ≡ true → (a || b) ≡ true
or_then true b h = refl
or_then false b h = h

-- of a number before which all verses begin, all up to the greatest that is written
is_in_from : (n : ℕ) (vs : List Verse) → AllByRecursion (λ v. v.first ≤ n) vs → 0 < n → n ≤ greatest (written_of vs) → is_in vs n ≡ true
is_in_from n [] first some le = absurd (omega (arith, some, le))
is_in_from n (v ∷ vs) first some le = by (λ l. is_in_from n vs first.1 some l) v.written refl (nat_le n v.last) refl le
  where
    by : (n ≤ greatest (written_of vs) → is_in vs n ≡ true) → (w : Bool) → v.written ≡ w → (b : Bool) → nat_le n v.last ≡ b
        → n ≤ greatest (cond w (v ∷ written_of vs) (written_of vs)) → (writes n v || is_in vs n) ≡ true
    by rest true e true f l =
        let le : n ≤ v.last = grind (arith, nat_tests, f) in
        ap (λ c. c || is_in vs n) (writes_yes n v e first.0 le)
    by rest true e false f l =
        let more : v.last < n = grind (arith, nat_tests, f) in
        or_then (writes n v) (is_in vs n) (rest (omega (arith, l, more)))
    by rest false e b f l = or_then (writes n v) (is_in vs n) (rest l)

-- ---- a verse more

is_in_more : (vs : List Verse) (v : Verse) (n : ℕ) → is_in (vs ++ v ∷ []) n ≡ (is_in vs n || writes n v)
is_in_more vs v n = list_any-append (writes n) vs (v ∷ []) ∙ ap (λ b. is_in vs n || b) (or-false (writes n v))

none_above : (vs : List Verse) (m : ℕ) → greatest (written_of vs) ≤ m → (n : ℕ) → m < n → is_in vs n ≡ false
none_above vs m le n lt = by (is_in vs n) refl
  where
    by : (b : Bool) → is_in vs n ≡ b → b ≡ false
    by false e = refl
    by true e = let l = is_in_below n vs e in absurd (omega (arith, le, lt, l))

-- counted up to any number from the greatest on
count_up_to : (vs : List Verse) (n : ℕ) → greatest vs ≤ n → count_to n (is_in vs) ≡ count_written vs
count_up_to vs n le =
    let e : n ≡ (n - greatest vs) + greatest vs = omega (arith, le) in
    ap (λ k. count_to k (is_in vs)) e
    ∙ count_beyond (is_in vs) (greatest vs) (none_above vs (greatest vs) (reached_within vs)) (n - greatest vs)

all_before : (n m : ℕ) (vs : List Verse) → n ≤ m → AllByRecursion (λ v. v.first ≤ n) vs → AllByRecursion (λ v. v.first ≤ m) vs
all_before n m [] le h = tt
all_before n m (v ∷ vs) le h = (omega (arith, le, h.0), all_before n m vs le h.1)

count_more : (vs : List Verse) (v : Verse) → AllByRecursion (λ w. w.first ≤ v.first) vs → (b : Bool) → v.written ≡ b
    → count_written (vs ++ v ∷ [])
    ≡ cond b (count_written vs + (v.last - max (greatest (written_of vs)) (v.first - 1))) (count_written vs)
count_more vs v first true e =
    let all = max (greatest vs) v.last in
    let low = max (greatest (written_of vs)) (v.first - 1) in
    let most = greatest_more vs v in
    let added = count_added (is_in vs) (λ n. writes n v) low v.last
    (λ n h. let l = is_in_below n vs h in omega (arith, l))
    (λ n some h. let p = writes_parts n v h in (p.1.1, λ none. above n some p.1.0 none))
    (λ n more le. writes_yes n v e (omega (arith, more)) le) all in
    ap (λ k. count_to k (is_in (vs ++ v ∷ []))) most
    ∙ count_same (is_in (vs ++ v ∷ [])) (λ n. is_in vs n || writes n v) (is_in_more vs v) all
    ∙ (let up = count_up_to vs all (omega arith) in omega (arith, added, up))
  where
    above : (n : ℕ) → 0 < n → v.first ≤ n → is_in vs n ≡ false → max (greatest (written_of vs)) (v.first - 1) < n
    above n some from none = by (suc (greatest (written_of vs)) - n) refl
      where
        by : (d : ℕ) → suc (greatest (written_of vs)) - n ≡ d → max (greatest (written_of vs)) (v.first - 1) < n
        by zero h = omega (arith, from, h, some)
        by (suc d) h =
            absurd (true≢false (sym (is_in_from n vs (all_before v.first n vs from first) some (omega (arith, h))) ∙ none))
count_more vs v first false e =
    let most = greatest_more vs v in
    let all = max (greatest vs) v.last in
    ap (λ k. count_to k (is_in (vs ++ v ∷ []))) most
    ∙ count_same (is_in (vs ++ v ∷ [])) (is_in vs)
    (λ n. is_in_more vs v n ∙ ap (λ b. is_in vs n || (b && (nat_le v.first n && nat_le n v.last))) e ∙ or-false (is_in vs n)) all
    ∙ count_up_to vs all (omega arith)

-- the tally of no verses
pub tally_none : tally_of [] ≡ none_counted
tally_none i = record { greatest = 0; reached = 0; written = count_none (is_in []) i }

-- The tally of verses with one more that does not begin before any of them.
pub tally_more : (vs : List Verse) (v : Verse) → AllByRecursion (λ w. w.first ≤ v.first) vs
    → tally_of (vs ++ v ∷ []) ≡ with_verse (tally_of vs) v
tally_more vs v first = λ i. record {
  greatest = greatest_more vs v i;
  reached = reached_more vs v v.written refl i;
  written = count_more vs v first v.written refl i;
}

-- no more numbers are written than up to the greatest that is
pub tally_within : (vs : List Verse) → (tally_of vs).written ≤ (tally_of vs).reached
tally_within vs =
    let w = count_within (is_in vs) (greatest (written_of vs)) (none_above vs (greatest (written_of vs)) (omega arith)) (greatest vs) in
    omega (arith, w)
