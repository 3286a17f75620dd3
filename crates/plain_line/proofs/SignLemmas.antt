-- Characters written one after another.
use Rattle.std.proofs.Common.{◌≡◌, ℕ, List, [], ◌∷◌, ◌++◌, map, sym, ap, ◌∙◌, refl, append_assoc}
use Rattle.std.proofs.lemmas.List.{append-nil}
use Rattle.std.proofs.lemmas.List.Concat.{flat_map-append}
use Rattle.std.proofs.lemmas.Str.{encodes-append}
use Rattle.std.specs.Prelude.{encode_utf8_all}
use Rattle.std.specs.List.{flat_map}

-- what was written of some characters, with what stands for one more
pub one_more : (f : ℕ → List ℕ) (front at after : List ℕ) (cs : List ℕ) (c : ℕ) → at ≡ front ++ encode_utf8_all (flat_map f cs)
    → after ≡ at ++ encode_utf8_all (f c) → after ≡ front ++ encode_utf8_all (flat_map f (cs ++ c ∷ []))
one_more f front at after cs c was is =
    let joined : flat_map f cs ++ f c ≡ flat_map f (cs ++ c ∷ []) =
    ap (λ (x : List ℕ). flat_map f cs ++ x) (sym (append-nil (f c))) ∙ sym (flat_map-append f cs (c ∷ [])) in
    is ∙ ap (λ (x : List ℕ). x ++ encode_utf8_all (f c)) was
    ∙ append_assoc front (encode_utf8_all (flat_map f cs)) (encode_utf8_all (f c))
    ∙ ap (λ (x : List ℕ). front ++ x) (sym (encodes-append (flat_map f cs) (f c)) ∙ ap encode_utf8_all joined)

same_items : (xs : List ℕ) → map (λ (c : ℕ). c) xs ≡ xs
same_items [] = refl
same_items (x ∷ xs) = ap (λ (ys : List ℕ). x ∷ ys) (same_items xs)

-- what was written of all characters of a text
pub all_written : (f : ℕ → List ℕ) (at front cs xs : List ℕ) → at ≡ front ++ encode_utf8_all (flat_map f xs) → map (λ (c : ℕ). c) xs ≡ cs
    → at ≡ front ++ encode_utf8_all (flat_map f cs)
all_written f at front cs xs was are = was ∙ ap (λ (ys : List ℕ). front ++ encode_utf8_all (flat_map f ys)) (sym (same_items xs) ∙ are)
