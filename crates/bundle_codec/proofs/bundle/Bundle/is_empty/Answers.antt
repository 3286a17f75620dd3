use Rattle.std.proofs.Common.{◌≡◌, ℕ, List, [], ◌∷◌, length, IsTrue, eqb, refl, sym, ap, ◌∙◌, arith}
use Rattle.std.proofs.lemmas.Bool.{eqb-true, eq-eqb}
use Rattle.bundle_codec.proofs.bundle.Bundle.is_empty.Goals as goal

-- a list is empty exactly where its length is 0
emptied : {A : Type 0} (n : ℕ) (xs : List A) → n ≡ length xs → (IsTrue (eqb n 0) → xs ≡ []) × (xs ≡ [] → IsTrue (eqb n 0))
emptied {A} n xs e = (λ t. no_more xs (sym e ∙ eqb-true n 0 t), λ none. eq-eqb n 0 (e ∙ ap length none))
  where
    no_more : (ys : List A) → length ys ≡ 0 → ys ≡ []
    no_more [] z = refl
    no_more (y ∷ ys) z = absurd (omega (arith, z))

pub returns : goal.returns
returns c = emptied c.len.result c.args.self.now c.len.ensures
