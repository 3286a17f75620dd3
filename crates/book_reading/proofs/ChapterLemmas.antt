-- The chapters of runs, from the front.
use Rattle.std.proofs.Common.{◌≡◌, ℕ, suc, ◌+◌, ◌-◌, Bool, true, false, cond, List, [], ◌∷◌, length, take, drop, Some}
use Rattle.std.proofs.Common.{refl, sym, ap, ◌∙◌, arith}
use Rattle.std.proofs.lemmas.List.{take_rest, take-map, drop-map}
use Rattle.std.specs.List.{flat_map, prefix_len}
use Rattle.std.specs.Prelude.{slice_get, not}
use Rattle.book_reading.specs.Chapters.{has_mark, onto_chapters, chapters_of}
use Rattle.book_reading.specs.Readings.{RunParts, starts_chapter}
use Rattle.book_reading.specs.Views.{run_view, runs_view}
use Rattle.book_reading.specs.declared.run.Run.{Run}
use Rattle.book_reading.proofs.Fronts.{prefix_len_of_views}
use Rattle.book_reading.proofs.Nexts.{starts_with}

-- ---- they hold all

front_holds : (r : RunParts) (cs : List (List RunParts))
    → flat_map (λ (c : List RunParts). c) (onto_chapters r cs) ≡ r ∷ flat_map (λ c. c) cs
front_holds r [] = refl
front_holds r (c ∷ cs) = by (has_mark c)
  where
    by : (b : Bool)
        → flat_map (λ (c : List RunParts). c) (cond b ((r ∷ []) ∷ c ∷ cs) ((r ∷ c) ∷ cs)) ≡ r ∷ flat_map (λ c. c) (c ∷ cs)
    by true = refl
    by false = refl

pub chapters_hold : (rs : List RunParts) → flat_map (λ c. c) (chapters_of rs) ≡ rs
chapters_hold [] = refl
chapters_hold (r ∷ rs) = front_holds r (chapters_of rs) ∙ ap (λ l. r ∷ l) (chapters_hold rs)

-- ---- the first

-- a run that begins no chapter
abbrev goes_in : RunParts → Bool
goes_in r = not (starts_chapter r)

-- with one more in front
more_in_front : (r x : RunParts) (xs : List RunParts) (n : ℕ) (b : Bool)
    → chapters_of (x ∷ xs) ≡ (x ∷ take n xs) ∷ chapters_of (drop n xs)
    → cond b ((r ∷ []) ∷ (x ∷ take n xs) ∷ chapters_of (drop n xs)) ((r ∷ x ∷ take n xs) ∷ chapters_of (drop n xs))
    ≡ (r ∷ take (cond (not b) (1 + n) 0) (x ∷ xs)) ∷ chapters_of (drop (cond (not b) (1 + n) 0) (x ∷ xs))
more_in_front r x xs n true is = ap (λ cs. (r ∷ []) ∷ cs) (sym is)
more_in_front r x xs n false is =
    let more : suc n ≡ 1 + n = omega arith in
    ap (λ k. (r ∷ take k (x ∷ xs)) ∷ chapters_of (drop k (x ∷ xs))) more

first_chapter : (r : RunParts) (rs : List RunParts)
    → chapters_of (r ∷ rs) ≡ (r ∷ take (prefix_len goes_in rs) rs) ∷ chapters_of (drop (prefix_len goes_in rs) rs)
first_chapter r [] = refl
first_chapter r (x ∷ xs) =
    ap (onto_chapters r) (first_chapter x xs)
    ∙ more_in_front r x xs (prefix_len goes_in xs) (starts_chapter x) (first_chapter x xs)

-- ---- what an iterator gives, and what it has left

chapter_step : (x : Run) (xs : List Run) (n : ℕ) → n ≡ prefix_len goes_in (runs_view xs)
    → chapters_of (runs_view (x ∷ xs)) ≡ runs_view (take (1 + n) (x ∷ xs)) ∷ chapters_of (runs_view (drop (1 + n) (x ∷ xs)))
chapter_step x xs n is =
    let more : suc n ≡ 1 + n = omega arith in
    first_chapter (run_view x) (runs_view xs)
    ∙ ap (λ k. (run_view x ∷ take k (runs_view xs)) ∷ chapters_of (drop k (runs_view xs))) (sym is)
    ∙ (λ i. (run_view x ∷ take-map run_view n xs i) ∷ chapters_of (drop-map run_view n xs i))
    ∙ ap (λ k. runs_view (take k (x ∷ xs)) ∷ chapters_of (runs_view (drop k (x ∷ xs)))) more

pub next_chapter : (xs : List Run) (x : Run) (n : ℕ) → Some x ≡ slice_get xs 0
    → ((y : Run) (ys : List Run) → xs ≡ y ∷ ys → n ≡ 1 + prefix_len (λ (r : Run). goes_in (run_view r)) ys)
    → chapters_of (runs_view xs) ≡ runs_view (take n xs) ∷ chapters_of (runs_view (take (length xs - n) (drop n xs)))
next_chapter xs x n first count =
    let ys = drop 1 xs in
    let whole = starts_with xs x first in
    let m = prefix_len goes_in (runs_view ys) in
    let n_is : n ≡ 1 + m = count x ys whole ∙ ap (λ k. 1 + k) (prefix_len_of_views goes_in ys) in
    ap (λ l. chapters_of (runs_view l)) whole
    ∙ chapter_step x ys m refl
    ∙ ap (λ k. runs_view (take k (x ∷ ys)) ∷ chapters_of (runs_view (drop k (x ∷ ys)))) (sym n_is)
    ∙ ap (λ l. runs_view (take n l) ∷ chapters_of (runs_view (drop n l))) (sym whole)
    ∙ ap (λ l. runs_view (take n xs) ∷ chapters_of (runs_view l)) (sym (take_rest xs n))
