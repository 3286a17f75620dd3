-- Texts that differ.
use Rattle.std.proofs.Common.{◌≡◌, ℕ, zero, suc, ◌+◌, ◌<◌, ◌≤◌, Bool, true, false, not, ◌||◌, List, [], ◌∷◌, ◌++◌, length, get_or, take, map, refl, sym, ap, ◌∙◌, arith}
use Rattle.std.specs.List.{list_any}
use Rattle.std.proofs.lemmas.Bool.{or_right}
use Rattle.std.proofs.lemmas.List.{map_more}
use Rattle.usfm_ref.proofs.Orders.{same_bytes-refl}
use Rattle.op_core.specs.Ops.{Operation, own_text}
use Rattle.op_core.specs.Shown.{last, text_if_any}
use Rattle.op_core.proofs.Walk.{last_push}
use Rattle.project_status.specs.Numbers.{differ}

-- fewer than two operations do not differ
pub few_agree : (ops : List Operation) → length ops ≤ 1 → differ ops ≡ false
few_agree [] l = refl
few_agree (o ∷ []) l = λ i. not (same_bytes-refl (own_text o) i) || false
few_agree (o ∷ p ∷ ops) l = absurd (omega arith)

-- where one item passes a test, one of them does
pub one_passes : {X : Type 0} (f : X → Operation) (xs : List X) (i : ℕ) (x : X) → i < length xs → x ≡ get_or xs i x
    → (p : Operation → Bool) → p (f x) ≡ true → list_any p (map f xs) ≡ true
one_passes f [] i x l is p h = absurd (omega (arith, l))
one_passes {X} f (y ∷ ys) zero x l is p h = ap (λ b. b || list_any p (map f ys)) (ap (λ (z : X). p (f z)) (sym is) ∙ h)
one_passes f (y ∷ ys) (suc i) x l is p h = or_right (p (f y)) _ (one_passes f ys i x (omega (arith, l)) is p h)

-- the text of the last of some items is that of the item
pub last_text : {X : Type 0} (f : X → Operation) (xs : List X) (i : ℕ) (x : X) → i < length xs → x ≡ get_or xs i x
    → text_if_any (last (map f (take (i + 1) xs))) ≡ own_text (f x)
last_text {X} f xs i x l is =
    ap (λ (ops : List Operation). text_if_any (last ops)) (map_more f xs i x l ∙ ap (λ (z : X). map f (take i xs) ++ f z ∷ []) (sym is))
    ∙ ap text_if_any (last_push (map f (take i xs)) (f x))
