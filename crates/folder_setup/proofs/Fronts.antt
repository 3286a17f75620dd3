-- Texts by their fronts.
use Rattle.std.proofs.Common.{◌≡◌, ◌≢◌, ◌==◌, ℕ, Bool, true, false, cond, List, [], ◌∷◌, ◌++◌, Option, Some, None, drop, option_map, Bor, arith, refl, ap, sym, ◌∙◌}
use Rattle.std.proofs.lemmas.Bool.Decides.{nat_tests}
use Rattle.std.proofs.lemmas.Bool.{eqb-true}
use Rattle.std.specs.Option.{MatchOption}
use Rattle.std.specs.Str.Pattern.{FindsTextPrefix, StripsPrefix}
use Rattle.folder_setup.specs.Setups.{after}

-- after a front comes the rest
pub after_itself : (front rest : List ℕ) → after front (front ++ rest) ≡ Some rest
after_itself [] rest = refl
after_itself (b ∷ front) rest = grind (arith, nat_tests, after_itself front rest)

-- a text that does not begin with a front has nothing after it
pub after_none : (front text : List ℕ) → ((rest : List ℕ) → text ≢ front ++ rest) → after front text ≡ None
after_none [] text lacks = absurd (lacks text refl)
after_none (b ∷ front) [] lacks = refl
after_none (b ∷ front) (c ∷ text) lacks = by (after_none front text) (b == c) refl
  where
    by : (((rest : List ℕ) → text ≢ front ++ rest) → after front text ≡ None) → (is : Bool) → (b == c) ≡ is
        → after (b ∷ front) (c ∷ text) ≡ None
    by later true e = rw e (later (λ rest h. lacks rest (λ i. sym (eqb-true b c e) i ∷ h i)))
    by later false e = rw e refl

-- what `strip_prefix` answers at a text
pub stripped : (front text : List ℕ) (r : Option (Bor (List ℕ)))
    → MatchOption r (FindsTextPrefix front text None) (λ x. StripsPrefix (FindsTextPrefix front) text x.now)
    → option_map (λ x. x.now) r ≡ after front text
stripped front text None h = sym (after_none front text h)
stripped front text (Some x) (k, h, e, l) =
    ap Some e ∙ sym (ap (after front) h.1 ∙ after_itself front (drop k text))

-- what has something after a front begins with the front
pub after_is : (front text rest : List ℕ) → after front text ≡ Some rest → text ≡ front ++ rest
after_is [] text rest h = grind (arith, h)
after_is (b ∷ front) [] rest h = absurd (grind (arith, h))
after_is (b ∷ front) (c ∷ text) rest h = by (after_is front text rest) (b == c) refl h
  where
    by : (after front text ≡ Some rest → text ≡ front ++ rest) → (is : Bool) → (b == c) ≡ is
        → cond is (after front text) None ≡ Some rest → c ∷ text ≡ b ∷ front ++ rest
    by later true e h = λ i. sym (eqb-true b c e) i ∷ later h i
    by later false e h = absurd (grind (arith, h))
