-- Pieces that were appended one after another.
use Rattle.std.proofs.Common.{◌≡◌, ℕ, List, ◌++◌, ap, ◌∙◌, append_assoc}

-- a piece was appended, and then the rest
pub joined : {one new : List ℕ} (old a rest : List ℕ) → one ≡ old ++ a → new ≡ one ++ rest → new ≡ old ++ (a ++ rest)
joined old a rest f g = g ∙ ap (λ (x : List ℕ). x ++ rest) f ∙ append_assoc old a rest
