-- The blocks of runs, from the front.
use Rattle.std.proofs.Common.{◌≡◌, ℕ, ◌+◌, Bool, true, false, cond, List, [], ◌∷◌, ◌++◌, take, drop}
use Rattle.std.proofs.Common.{refl, sym, ap, ◌∙◌, suc, arith}
use Rattle.std.specs.List.{flat_map, prefix_len}
use Rattle.std.specs.Prelude.{not, is_some}
use Rattle.book_reading.specs.Blocks.{BlockParts, begins, in_front, blocks_of}
use Rattle.book_reading.specs.Readings.{RunParts}

-- ---- they hold all

front_holds : (r : RunParts) (bs : List BlockParts)
    → flat_map (λ (b : BlockParts). b.runs) (in_front r bs) ≡ r ∷ flat_map (λ (b : BlockParts). b.runs) bs
front_holds r [] = refl
front_holds r (b ∷ bs) = by (is_some b.kind)
  where
    by : (is : Bool)
        → flat_map (λ (b : BlockParts). b.runs)
        (cond is (record { kind = begins r.sort; runs = r ∷ [] } ∷ b ∷ bs) (record { kind = begins r.sort; runs = r ∷ b.runs } ∷ bs))
        ≡ r ∷ (b.runs ++ flat_map (λ (b : BlockParts). b.runs) bs)
    by true = refl
    by false = refl

-- the runs of blocks are the runs that these were made of
pub blocks_hold : (rs : List RunParts) → flat_map (λ (b : BlockParts). b.runs) (blocks_of rs) ≡ rs
blocks_hold [] = refl
blocks_hold (r ∷ rs) = front_holds r (blocks_of rs) ∙ ap (λ l. r ∷ l) (blocks_hold rs)

-- ---- the first

-- a run that begins no block
abbrev pub stays : RunParts → Bool
stays r = not (is_some (begins r.sort))

-- the block that a run begins, with so many more
abbrev block_at : RunParts → ℕ → List RunParts → BlockParts
block_at r n rs = record { kind = begins r.sort; runs = r ∷ take n rs }

-- with one more in front
more_in_front : (r x : RunParts) (xs : List RunParts) (n : ℕ) (b : Bool)
    → blocks_of (x ∷ xs) ≡ block_at x n xs ∷ blocks_of (drop n xs)
    → cond b (record { kind = begins r.sort; runs = r ∷ [] } ∷ block_at x n xs ∷ blocks_of (drop n xs))
    (record { kind = begins r.sort; runs = r ∷ (x ∷ take n xs) } ∷ blocks_of (drop n xs))
    ≡ block_at r (cond (not b) (1 + n) 0) (x ∷ xs) ∷ blocks_of (drop (cond (not b) (1 + n) 0) (x ∷ xs))
more_in_front r x xs n true is = ap (λ bs. record { kind = begins r.sort; runs = r ∷ [] } ∷ bs) (sym is)
more_in_front r x xs n false is =
    let more : suc n ≡ 1 + n = omega arith in
    ap (λ k. block_at r k (x ∷ xs) ∷ blocks_of (drop k (x ∷ xs))) more

pub first_block : (r : RunParts) (rs : List RunParts)
    → blocks_of (r ∷ rs) ≡ block_at r (prefix_len stays rs) rs ∷ blocks_of (drop (prefix_len stays rs) rs)
first_block r [] = refl
first_block r (x ∷ xs) =
    ap (in_front r) (first_block x xs) ∙ more_in_front r x xs (prefix_len stays xs) (is_some (begins x.sort)) (first_block x xs)
