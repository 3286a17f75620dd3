-- Lines by how many words they have.
use Rattle.std.proofs.Common.{◌≡◌, ℕ, List, [], ◌∷◌, length, Option, None, Some, refl, arith}
use Rattle.versification.specs.Lines.{left_out_of}

-- where not one word comes after a book's code, no verse is left out
pub not_one : (book : Option (List ℕ)) (ws : List (List ℕ)) → (length ws ≡ 1 → ⊥) → left_out_of book ws ≡ None
not_one None ws h = refl
not_one (Some book) [] h = refl
not_one (Some book) (w ∷ []) h = absurd (h (omega arith))
not_one (Some book) (w ∷ x ∷ ws) h = refl
