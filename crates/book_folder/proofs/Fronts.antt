-- Texts by their fronts.
use Rattle.std.proofs.Common.{◌≡◌, ◌≢◌, ◌==◌, ℕ, Bool, true, false, List, [], ◌∷◌, ◌++◌, Option, Some, None, drop, option_map, Bor, arith, refl, ap, sym, ◌∙◌}
use Rattle.std.proofs.lemmas.Bool.Decides.{nat_tests}
use Rattle.std.proofs.lemmas.Bool.{eqb-true}
use Rattle.std.specs.Option.{MatchOption, option_and_then}
use Rattle.std.specs.Str.Pattern.{FindsTextPrefix, StripsPrefix}
use Rattle.book_folder.specs.Naming.{after}

-- after a front comes the rest
pub after_itself : (front rest : List ℕ) → after front (front ++ rest) ≡ Some rest
after_itself [] rest = refl
after_itself (b ∷ front) rest = grind (arith, nat_tests, after_itself front rest)

-- a text that does not begin with a front has nothing after it
pub after_none : (front text : List ℕ) → ((rest : List ℕ) → text ≢ front ++ rest) → after front text ≡ None
after_none [] text lacks = absurd (lacks text refl)
after_none (b ∷ front) [] lacks = refl
after_none (b ∷ front) (c ∷ text) lacks = by (after_none front text) (b == c) refl
  where
    by : (((rest : List ℕ) → text ≢ front ++ rest) → after front text ≡ None) → (is : Bool) → (b == c) ≡ is
        → after (b ∷ front) (c ∷ text) ≡ None
    by later true e = rw e (later (λ rest h. lacks rest (λ i. sym (eqb-true b c e) i ∷ h i)))
    by later false e = rw e refl

-- what `strip_prefix` answers at a text
pub stripped : (front text : List ℕ) (r : Option (Bor (List ℕ)))
    → MatchOption r (FindsTextPrefix front text None) (λ x. StripsPrefix (FindsTextPrefix front) text x.now)
    → option_map (λ x. x.now) r ≡ after front text
stripped front text None h = sym (after_none front text h)
stripped front text (Some x) (k, h, e, l) =
    ap Some e ∙ sym (ap (after front) h.1 ∙ after_itself front (drop k text))

-- one front after the other is their sequence
pub after_append : (first second text : List ℕ) → after (first ++ second) text ≡ option_and_then (after second) (after first text)
after_append [] second text = refl
after_append (b ∷ first) second [] = refl
after_append (b ∷ first) second (c ∷ text) = by (after_append first second text) (b == c) refl
  where
    by : after (first ++ second) text ≡ option_and_then (after second) (after first text) → (is : Bool) → (b == c) ≡ is
        → after (b ∷ first ++ second) (c ∷ text) ≡ option_and_then (after second) (after (b ∷ first) (c ∷ text))
    by later true e = rw e later
    by later false e = rw e refl
