-- The first block and the first note of a reading, as an iterator gives them.
use Rattle.std.proofs.Common.{◌≡◌, ℕ, suc, ◌+◌, Bool, true, false, cond, List, [], ◌∷◌, take, drop, refl, sym, ap, ◌∙◌, arith}
use Rattle.std.proofs.lemmas.List.{take-map, drop-map}
use Rattle.std.specs.List.{prefix_len}
use Rattle.book_reading.specs.Blocks.{BlockParts, NoteParts, begins, blocks_of, goes_on, notes_of}
use Rattle.book_reading.specs.Readings.{RunParts, is_caller}
use Rattle.book_reading.specs.Views.{run_view, runs_view}
use Rattle.book_reading.specs.declared.run.Run.{Run}
use Rattle.book_reading.proofs.BlockLemmas.{stays, first_block}

-- how many at the front pass a test of their views
pub prefix_len_of_views : (p : RunParts → Bool) (xs : List Run) → prefix_len (λ x. p (run_view x)) xs ≡ prefix_len p (runs_view xs)
prefix_len_of_views p [] = refl
prefix_len_of_views p (x ∷ xs) = ap (λ n. cond (p (run_view x)) (1 + n) 0) (prefix_len_of_views p xs)

-- the runs of a block after its first, and what follows
pub block_step : (x : Run) (xs : List Run) (n : ℕ) → n ≡ prefix_len stays (runs_view xs)
    → blocks_of (runs_view (x ∷ xs))
    ≡ record { kind = begins x.sort; runs = runs_view (take (1 + n) (x ∷ xs)) } ∷ blocks_of (runs_view (drop (1 + n) (x ∷ xs)))
block_step x xs n is =
    let more : suc n ≡ 1 + n = omega arith in
    first_block (run_view x) (runs_view xs)
    ∙ ap (λ k. (let b : BlockParts = record { kind = begins x.sort; runs = run_view x ∷ take k (runs_view xs) } in b)
    ∷ blocks_of (drop k (runs_view xs))) (sym is)
    ∙ (λ i. (let b : BlockParts = record { kind = begins x.sort; runs = run_view x ∷ take-map run_view n xs i } in b)
    ∷ blocks_of (drop-map run_view n xs i))
    ∙ ap (λ k. (let b : BlockParts = record { kind = begins x.sort; runs = runs_view (take k (x ∷ xs)) } in b)
    ∷ blocks_of (runs_view (drop k (x ∷ xs)))) more

-- the runs of a note after its mark, and what follows the mark
pub note_step : (x : Run) (xs : List Run) (n : ℕ) → is_caller x.sort ≡ true → n ≡ prefix_len goes_on (runs_view xs)
    → notes_of (runs_view (x ∷ xs))
    ≡ record { number = x.note; runs = runs_view (take (1 + n) (x ∷ xs)) } ∷ notes_of (runs_view xs)
note_step x xs n caller is =
    let more : suc n ≡ 1 + n = omega arith in
    ap (λ b. cond b ((let o : NoteParts = record {
      number = x.note;
      runs = run_view x ∷ take (prefix_len goes_on (runs_view xs)) (runs_view xs);
    } in o) ∷ notes_of (runs_view xs)) (notes_of (runs_view xs))) caller
    ∙ ap (λ k. (let o : NoteParts = record { number = x.note; runs = run_view x ∷ take k (runs_view xs) } in o)
    ∷ notes_of (runs_view xs)) (sym is)
    ∙ ap (λ l. (let o : NoteParts = record { number = x.note; runs = run_view x ∷ l } in o) ∷ notes_of (runs_view xs))
    (take-map run_view n xs)
    ∙ ap (λ k. (let o : NoteParts = record { number = x.note; runs = runs_view (take k (x ∷ xs)) } in o)
    ∷ notes_of (runs_view xs)) more

-- a run that begins no note
pub note_passed : (x : Run) (xs : List Run) → is_caller x.sort ≡ false → notes_of (runs_view (x ∷ xs)) ≡ notes_of (runs_view xs)
note_passed x xs other =
    ap (λ b. cond b ((let o : NoteParts = record {
      number = x.note;
      runs = run_view x ∷ take (prefix_len goes_on (runs_view xs)) (runs_view xs);
    } in o) ∷ notes_of (runs_view xs)) (notes_of (runs_view xs))) other
