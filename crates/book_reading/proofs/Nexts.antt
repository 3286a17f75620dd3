-- What the iterators over blocks and notes give next, and what they have left.
use Rattle.std.proofs.Common.{◌≡◌, ℕ, suc, ◌+◌, ◌-◌, Bool, true, false, cond, List, [], ◌∷◌, length, take, drop, Option, None, Some}
use Rattle.std.proofs.Common.{refl, sym, ap, subst, ◌∙◌, arith}
use Rattle.std.proofs.lemmas.List.{take_rest, drop-drop}
use Rattle.std.proofs.lemmas.Option.{slice_get_within, get_or_from_slice_get, slice_get-get_or}
use Rattle.std.specs.List.{prefix_len}
use Rattle.std.specs.Prelude.{slice_get, not}
use Rattle.book_reading.specs.Blocks.{BlockParts, NoteParts, begins, blocks_of, goes_on, notes_of}
use Rattle.book_reading.specs.Readings.{RunParts, is_caller}
use Rattle.book_reading.specs.Views.{run_view, runs_view}
use Rattle.book_reading.specs.declared.kind.BlockKind.{BlockKind}
use Rattle.book_reading.specs.declared.run.Run.{Run}
use Rattle.book_reading.proofs.BlockLemmas.{stays}
use Rattle.book_reading.proofs.Fronts.{prefix_len_of_views, block_step, note_step, note_passed}

-- ---- the first element

pub starts_with : (xs : List Run) (x : Run) → Some x ≡ slice_get xs 0 → xs ≡ x ∷ drop 1 xs
starts_with [] x h = let none = slice_get_within [] 0 x (sym h) in absurd (omega arith)
starts_with (y ∷ ys) x h = ap (λ (z : Run). z ∷ ys) (get_or_from_slice_get (y ∷ ys) 0 x x (sym h))

is_empty : (xs : List Run) → None ≡ slice_get xs 0 → xs ≡ []
is_empty [] h = refl
is_empty (x ∷ xs) h = let some = slice_get-get_or (x ∷ xs) 0 x (omega arith) in absurd (cc)

-- ---- blocks

abbrev block : Option BlockKind → List RunParts → BlockParts
block kind runs = record { kind = kind; runs = runs }

pub next_block : (xs : List Run) (x : Run) (kind : Option BlockKind) (n : ℕ) → Some x ≡ slice_get xs 0 → kind ≡ begins x.sort
    → ((y : Run) (ys : List Run) → xs ≡ y ∷ ys → n ≡ 1 + prefix_len (λ (r : Run). stays (run_view r)) ys)
    → blocks_of (runs_view xs)
    ≡ block kind (runs_view (take n xs)) ∷ blocks_of (runs_view (take (length xs - n) (drop n xs)))
next_block xs x kind n first is_kind count =
    let ys = drop 1 xs in
    let whole = starts_with xs x first in
    let m = prefix_len stays (runs_view ys) in
    let n_is : n ≡ 1 + m = count x ys whole ∙ ap (λ k. 1 + k) (prefix_len_of_views stays ys) in
    ap (λ l. blocks_of (runs_view l)) whole
    ∙ block_step x ys m refl
    ∙ ap (λ k. block (begins x.sort) (runs_view (take k (x ∷ ys))) ∷ blocks_of (runs_view (drop k (x ∷ ys)))) (sym n_is)
    ∙ ap (λ l. block (begins x.sort) (runs_view (take n l)) ∷ blocks_of (runs_view (drop n l))) (sym whole)
    ∙ ap (λ k. block k (runs_view (take n xs)) ∷ blocks_of (runs_view (drop n xs))) (sym is_kind)
    ∙ ap (λ l. block kind (runs_view (take n xs)) ∷ blocks_of (runs_view l)) (sym (take_rest xs n))

-- ---- notes

abbrev note : Option ℕ → List RunParts → NoteParts
note number runs = record { number = number; runs = runs }

abbrev passes : Run → Bool
passes r = not (is_caller r.sort)

-- the runs before the mark of a note are in none
after_passed : (xs : List Run) → notes_of (runs_view xs) ≡ notes_of (runs_view (drop (prefix_len passes xs) xs))
after_passed [] = refl
after_passed (x ∷ xs) = by (is_caller x.sort) refl (after_passed xs)
  where
    by : (b : Bool) → is_caller x.sort ≡ b → notes_of (runs_view xs) ≡ notes_of (runs_view (drop (prefix_len passes xs) xs))
        → notes_of (runs_view (x ∷ xs)) ≡ notes_of (runs_view (drop (cond (not b) (1 + prefix_len passes xs) 0) (x ∷ xs)))
    by true h later = refl
    by false h later =
        let more : suc (prefix_len passes xs) ≡ 1 + prefix_len passes xs = omega arith in
        note_passed x xs h ∙ later ∙ ap (λ k. notes_of (runs_view (drop k (x ∷ xs)))) more

-- the run after them is such a mark
caller_there : (xs : List Run) (x : Run) → Some x ≡ slice_get (drop (prefix_len passes xs) xs) 0 → is_caller x.sort ≡ true
caller_there [] x h = let none = slice_get_within [] 0 x (sym h) in absurd (omega arith)
caller_there (y ∷ ys) x h = by (is_caller y.sort) refl h (caller_there ys x)
  where
    by : (b : Bool) → is_caller y.sort ≡ b
        → Some x ≡ slice_get (drop (cond (not b) (1 + prefix_len passes ys) 0) (y ∷ ys)) 0
        → (Some x ≡ slice_get (drop (prefix_len passes ys) ys) 0 → is_caller x.sort ≡ true) → is_caller x.sort ≡ true
    by true is h later = ap (λ (z : Run). is_caller z.sort) (sym (get_or_from_slice_get (y ∷ ys) 0 x x (sym h))) ∙ is
    by false is h later =
        let more : 1 + prefix_len passes ys ≡ suc (prefix_len passes ys) = omega arith in
        later (subst (λ k. Some x ≡ slice_get (drop k (y ∷ ys)) 0) more h)

drop_one_more : (k : ℕ) (xs : List Run) → drop 1 (drop k xs) ≡ drop (k + 1) xs
drop_one_more k xs = drop-drop 1 k xs

module _ (xs : List Run) (k : ℕ) (passed : k ≡ prefix_len passes xs) where
  abbrev from : List Run
  from = take (length xs - k) (drop k xs)

  from_is : from ≡ drop (prefix_len passes xs) xs
  from_is = take_rest xs k ∙ ap (λ j. drop j xs) passed

  pub no_note : None ≡ slice_get from 0 → notes_of (runs_view xs) ≡ []
  no_note none = after_passed xs ∙ ap (λ l. notes_of (runs_view l)) (sym from_is ∙ is_empty from none)

  pub next_note : (x : Run) (n : ℕ) → Some x ≡ slice_get from 0
      → ((y : Run) (ys : List Run) → from ≡ y ∷ ys → n ≡ 1 + prefix_len (λ (r : Run). goes_on (run_view r)) ys)
      → notes_of (runs_view xs)
      ≡ note x.note (runs_view (take n from)) ∷ notes_of (runs_view (take (length xs - (k + 1)) (drop (k + 1) xs)))
  next_note x n first count =
      let ys = drop 1 from in
      let whole = starts_with from x first in
      let m = prefix_len goes_on (runs_view ys) in
      let n_is : n ≡ 1 + m = count x ys whole ∙ ap (λ j. 1 + j) (prefix_len_of_views goes_on ys) in
      let caller = caller_there xs x (first ∙ ap (λ l. slice_get l 0) from_is) in
      after_passed xs ∙ ap (λ l. notes_of (runs_view l)) (sym from_is ∙ whole)
      ∙ note_step x ys m caller refl
      ∙ ap (λ j. note x.note (runs_view (take j (x ∷ ys))) ∷ notes_of (runs_view ys)) (sym n_is)
      ∙ ap (λ l. note x.note (runs_view (take n l)) ∷ notes_of (runs_view ys)) (sym whole)
      ∙ ap (λ l. note x.note (runs_view (take n from)) ∷ notes_of (runs_view l))
      (ap (drop 1) (take_rest xs k) ∙ drop_one_more k xs ∙ sym (take_rest xs (k + 1)))
