-- Texts that are lent, compared as what they are.
use Rattle.std.proofs.Common.{◌≡◌, ℕ, Bool, ◌&&◌, List, [], ◌∷◌, map, Option, Some, None, Bor, refl}
use Rattle.std.specs.Cmp.Lexicographic.{pointwise}
use Rattle.std.specs.Option.{option_eq}
use Rattle.usfm_ref.specs.Books.{same_bytes}
use Rattle.bundle_codec.specs.Views.{lent}
use Rattle.op_core.specs.Ops.{same_text}

module _ (E : Bor (List ℕ) → Bor (List ℕ) → Bool) (same : (x y : Bor (List ℕ)) → E x y ≡ same_bytes x.now y.now) where
  one_lent : (x y : Option (Bor (List ℕ))) → option_eq E x y ≡ same_text (lent x) (lent y)
  one_lent None None = refl
  one_lent None (Some y) = refl
  one_lent (Some x) None = refl
  one_lent (Some x) (Some y) = same x y

  pub same_lent : (xs ys : List (Option (Bor (List ℕ)))) → pointwise (option_eq E) xs ys ≡ pointwise same_text (map lent xs) (map lent ys)
  same_lent [] [] = refl
  same_lent [] (y ∷ ys) = refl
  same_lent (x ∷ xs) [] = refl
  same_lent (x ∷ xs) (y ∷ ys) = λ i. one_lent x y i && same_lent xs ys i
