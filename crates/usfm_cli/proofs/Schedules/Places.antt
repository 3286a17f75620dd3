-- Places among what was written.
use Rattle.std.proofs.Common.{◌≡◌, ℕ, zero, suc, Bool, true, false, cond, List, [], ◌∷◌, map, Option, None, Some, refl, sym, ap, subst, ◌∙◌}
use Rattle.std.specs.Prelude.{slice_get}
use Rattle.std.specs.Option.{option_map}
use Rattle.usfm_ref.specs.Books.{same_bytes}
use Rattle.usfm_ref.proofs.Orders.{same_bytes-is, same_bytes-refl}

-- the first place of some bytes
abbrev pub place_in : List (List ℕ) → List ℕ → Option ℕ
place_in [] bytes = None
place_in (x ∷ rest) bytes = cond (same_bytes x bytes) (Some zero) (option_map suc (place_in rest bytes))

-- the bytes stand at their place
pub place_is : (xs : List (List ℕ)) (bytes : List ℕ) (k : ℕ) → place_in xs bytes ≡ Some k → slice_get xs k ≡ Some bytes
place_is [] bytes k e = cc e
place_is (x ∷ xs) bytes k e = by (λ j f. place_is xs bytes j f) (same_bytes x bytes) refl e
  where
    after : ((j : ℕ) → place_in xs bytes ≡ Some j → slice_get xs j ≡ Some bytes) → (r : Option ℕ) → place_in xs bytes ≡ r
        → option_map suc r ≡ Some k → slice_get (x ∷ xs) k ≡ Some bytes
    after rest None f e = cc e
    after rest (Some j) f e =
        let at : suc j ≡ k = cc e in subst (λ (n : ℕ). slice_get (x ∷ xs) n ≡ Some bytes) at (rest j f)

    by : ((j : ℕ) → place_in xs bytes ≡ Some j → slice_get xs j ≡ Some bytes) → (b : Bool) → same_bytes x bytes ≡ b
        → cond b (Some zero) (option_map suc (place_in xs bytes)) ≡ Some k → slice_get (x ∷ xs) k ≡ Some bytes
    by rest true same e =
        let at : zero ≡ k = cc e in
        subst (λ (n : ℕ). slice_get (x ∷ xs) n ≡ Some bytes) at (ap Some (same_bytes-is x bytes same))
    by rest false same e = after rest (place_in xs bytes) refl e

-- bytes that stand there have a place
pub place_there : (xs : List (List ℕ)) (bytes : List ℕ) (k : ℕ) → slice_get xs k ≡ Some bytes
    → (j : ℕ) × (place_in xs bytes ≡ Some j)
place_there [] bytes k e = cc e
place_there (x ∷ xs) bytes zero e =
    let is : x ≡ bytes = cc e in (
      zero,
      ap (λ b. cond b (Some zero) (option_map suc (place_in xs bytes))) (ap (same_bytes x) (sym is) ∙ same_bytes-refl x),
    )
place_there (x ∷ xs) bytes (suc k) e = by (same_bytes x bytes) (place_there xs bytes k e)
  where
    by : (b : Bool) → (j : ℕ) × (place_in xs bytes ≡ Some j)
        → (j : ℕ) × (cond b (Some zero) (option_map suc (place_in xs bytes)) ≡ Some j)
    by true r = (zero, refl)
    by false r = (suc r.0, ap (option_map suc) r.1)

-- what stands in a list of images is the image of what stands there
pub mapped_at : {A B : Type 0} (f : A → B) (xs : List A) (k : ℕ) (y : B) → slice_get (map f xs) k ≡ Some y
    → (x : A) × (slice_get xs k ≡ Some x) × (f x ≡ y)
mapped_at f [] k y e = cc e
mapped_at f (x ∷ xs) zero y e = (x, refl, cc e)
mapped_at f (x ∷ xs) (suc k) y e = mapped_at f xs k y e
