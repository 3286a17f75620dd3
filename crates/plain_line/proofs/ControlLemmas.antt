-- What is left of the characters that a terminal obeys in a text.
use Rattle.std.proofs.Common.{◌≡◌, ℕ, ◌<◌, ◌/◌, ◌%◌, Bool, true, false, cond, not, ◌&&◌, ◌||◌, ◌==◌, List, [], ◌∷◌, ◌++◌, ap, ◌∙◌, refl, arith}
use Rattle.std.proofs.lemmas.Bool.{and_parts}
use Rattle.std.proofs.lemmas.Bool.Decides.{nat_tests}
use Rattle.std.proofs.lemmas.List.Folds.{list_all-append}
use Rattle.std.specs.List.{flat_map, list_all}
use Rattle.std.specs.Str.{all_scalars}
use Rattle.std.specs.Char.{digit_char, is_control, IsScalar}
use Rattle.plain_line.specs.Plain.{is_direction, is_obeyed, two_digits, control_spelled, direction_spelled, sign, sign_of_lines, sign_of_text, is_left_out, shown, parts_lines}
use Rattle.plain_line.specs.declared.text.CarriageReturn.{CarriageReturn}
use Rattle.plain_line.specs.declared.text.CarriageReturn.TheVariants.{LeftOut, Spelled}

-- a hexadecimal digit is a character that no terminal obeys
pub digit_is_plain : (d : ℕ) → d < 16 → is_obeyed (digit_char d) ≡ false
digit_is_plain d h = grind (arith, nat_tests)

pub digit_is_scalar : (d : ℕ) → d < 16 → IsScalar (digit_char d)
digit_is_scalar d h = grind (arith, nat_tests)

-- a control character is below 160
pub control_below : (c : ℕ) → is_control c ≡ true → c < 160
control_below c h = grind (arith, nat_tests)

-- a bidirectional control is below 65536
pub direction_below : (c : ℕ) → is_direction c ≡ true → c < 65536
direction_below c h = grind (arith, nat_tests)

-- two tests that pass
pub both : (a b : Bool) → a ≡ true → b ≡ true → (a && b) ≡ true
both a b p q = ap (λ (x : Bool). x && b) p ∙ q

-- characters and others after them
pub scalars-append : (xs ys : List ℕ) → all_scalars xs ≡ true → all_scalars ys ≡ true → all_scalars (xs ++ ys) ≡ true
scalars-append [] ys p q = q
scalars-append (x ∷ xs) ys p q = grind (arith, scalars-append xs ys)

-- what stands for each character passes, and is characters; so is what stands for all of them
pub signs_pass : (f : ℕ → List ℕ) (p : ℕ → Bool) → ((c : ℕ) → IsScalar c → list_all p (f c) ≡ true)
    → ((c : ℕ) → IsScalar c → all_scalars (f c) ≡ true) → (cs : List ℕ) → all_scalars cs ≡ true
    → (list_all p (flat_map f cs) ≡ true) × (all_scalars (flat_map f cs) ≡ true)
signs_pass f p each are [] h = (refl, refl)
signs_pass f p each are (c ∷ cs) h =
    let parts = and_parts _ _ h in
    let rest = signs_pass f p each are cs parts.1 in (
      list_all-append p (f c) (flat_map f cs) ∙ both _ _ (each c parts.0) rest.0,
      scalars-append (f c) (flat_map f cs) (are c parts.0) rest.1,
    )

-- whether a character is none that a terminal obeys, and whether lines may have it
abbrev pub is_harmless : ℕ → Bool
is_harmless c = not (is_obeyed c)

abbrev pub may_stand : ℕ → Bool
may_stand c = parts_lines c || not (is_obeyed c)

digits_are_plain : (n : ℕ) → n < 256 → list_all is_harmless (two_digits n) ≡ true
digits_are_plain n h =
    let high = digit_is_plain (n / 16) (omega arith) in
    let low = digit_is_plain (n % 16) (omega arith) in
    both _ _ (ap not high) (both _ true (ap not low) refl)

digits_are_scalars : (n : ℕ) → n < 256 → all_scalars (two_digits n) ≡ true
digits_are_scalars n h = both _ _ (digit_is_scalar (n / 16) (omega arith)) (both _ true (digit_is_scalar (n % 16) (omega arith)) refl)

pub sign_is_plain : (c : ℕ) → list_all is_harmless (sign c) ≡ true
sign_is_plain c = by (is_control c) refl (is_direction c) refl where
  by : (b : Bool) → is_control c ≡ b → (d : Bool) → is_direction c ≡ d
      → list_all is_harmless (cond b (control_spelled c) (cond d (direction_spelled c) (c ∷ []))) ≡ true
  by true e d f = let below = control_below c e in digits_are_plain c (omega arith)
  by false e true f =
      let below = direction_below c f in
      list_all-append is_harmless (two_digits (c / 256)) (two_digits (c % 256))
      ∙ both _ _ (digits_are_plain (c / 256) (omega arith)) (digits_are_plain (c % 256) (omega arith))
  by false e false f = both _ true (λ i. not (e i || f i)) refl

pub sign_is_scalar : (c : ℕ) → IsScalar c → all_scalars (sign c) ≡ true
sign_is_scalar c s = by (is_control c) refl (is_direction c) refl where
  by : (b : Bool) → is_control c ≡ b → (d : Bool) → is_direction c ≡ d
      → all_scalars (cond b (control_spelled c) (cond d (direction_spelled c) (c ∷ []))) ≡ true
  by true e d f = let below = control_below c e in digits_are_scalars c (omega arith)
  by false e true f =
      let below = direction_below c f in
      scalars-append (two_digits (c / 256)) (two_digits (c % 256))
      (digits_are_scalars (c / 256) (omega arith)) (digits_are_scalars (c % 256) (omega arith))
  by false e false f = both _ true s refl

-- what no terminal obeys stands for itself
sign_stays : (c : ℕ) → is_harmless c ≡ true → sign c ≡ c ∷ []
sign_stays c h = by (is_control c) (is_direction c) h where
  by : (b d : Bool) → not (b || d) ≡ true → cond b (control_spelled c) (cond d (direction_spelled c) (c ∷ [])) ≡ c ∷ []
  by false false g = refl
  by false true g = cc
  by true d g = cc

-- whether a text of several lines may have it
abbrev pub may_stand_in_text : ℕ → Bool
may_stand_in_text c = (c == 10) || not (is_obeyed c)

-- what passes a test passes it or another one
also : (p q : ℕ → Bool) (cs : List ℕ) → list_all q cs ≡ true → list_all (λ c. p c || q c) cs ≡ true
also p q [] h = refl
also p q (c ∷ cs) h =
    let parts = and_parts _ _ h in
    both _ _ (or_right (p c) (q c) parts.0) (also p q cs parts.1) where
      or_right : (a b : Bool) → b ≡ true → (a || b) ≡ true
      or_right true b e = refl
      or_right false b e = e

-- what stands for a character, where some stand for themselves, passes
kept_may_stand : (p : ℕ → Bool) (c : ℕ) → list_all (λ d. p d || is_harmless d) (cond (p c) (c ∷ []) (sign c)) ≡ true
kept_may_stand p c = by (p c) refl where
  by : (b : Bool) → p c ≡ b → list_all (λ d. p d || is_harmless d) (cond b (c ∷ []) (sign c)) ≡ true
  by true e = both _ true (ap (λ (x : Bool). x || is_harmless c) e) refl
  by false e = also p is_harmless (sign c) (sign_is_plain c)

-- and is characters
kept_is_scalar : (b : Bool) (c : ℕ) → IsScalar c → all_scalars (cond b (c ∷ []) (sign c)) ≡ true
kept_is_scalar true c s = both _ true s refl
kept_is_scalar false c s = sign_is_scalar c s

pub line_sign_may_stand : (c : ℕ) → list_all may_stand (sign_of_lines c) ≡ true
line_sign_may_stand c = kept_may_stand parts_lines c

pub line_sign_is_scalar : (c : ℕ) → IsScalar c → all_scalars (sign_of_lines c) ≡ true
line_sign_is_scalar c s = kept_is_scalar (parts_lines c) c s

pub text_sign_may_stand : (c : ℕ) → list_all may_stand_in_text (sign_of_text c) ≡ true
text_sign_may_stand c = kept_may_stand (λ d. d == 10) c

pub text_sign_is_scalar : (c : ℕ) → IsScalar c → all_scalars (sign_of_text c) ≡ true
text_sign_is_scalar c s = kept_is_scalar (c == 10) c s

-- what is not left out of characters is characters
pub shown-scalars : (returns : CarriageReturn) (cs : List ℕ) → all_scalars cs ≡ true → all_scalars (shown returns cs) ≡ true
shown-scalars returns [] h = refl
shown-scalars returns (c ∷ cs) h =
    let parts = and_parts _ _ h in
    by (is_left_out returns c cs) parts.0 (shown-scalars returns cs parts.1) where
      by : (b : Bool) → IsScalar c → all_scalars (shown returns cs) ≡ true
          → all_scalars (cond b (shown returns cs) (c ∷ shown returns cs)) ≡ true
      by true s r = r
      by false s r = both _ _ s r

-- a character that may stand in a text is not left out
stays : (returns : CarriageReturn) (c : ℕ) (cs : List ℕ) → may_stand_in_text c ≡ true → is_left_out returns c cs ≡ false
stays LeftOut c [] h = refl
stays LeftOut c (d ∷ cs) h = grind (arith, nat_tests)
stays Spelled c cs h = refl

-- a text that has none of them is what stands for it
pub plain_stays : (cs : List ℕ) → list_all is_harmless cs ≡ true → flat_map sign cs ≡ cs
plain_stays [] h = refl
plain_stays (c ∷ cs) h =
    let parts = and_parts (is_harmless c) (list_all is_harmless cs) h in
    ap (λ (xs : List ℕ). xs ++ flat_map sign cs) (sign_stays c parts.0) ∙ ap (λ (xs : List ℕ). c ∷ xs) (plain_stays cs parts.1)

none_left_out : (returns : CarriageReturn) (cs : List ℕ) → list_all may_stand_in_text cs ≡ true → shown returns cs ≡ cs
none_left_out returns [] h = refl
none_left_out returns (c ∷ cs) h =
    let parts = and_parts (may_stand_in_text c) (list_all may_stand_in_text cs) h in
    ap (λ (b : Bool). cond b (shown returns cs) (c ∷ shown returns cs)) (stays returns c cs parts.0)
    ∙ ap (λ (xs : List ℕ). c ∷ xs) (none_left_out returns cs parts.1)

text_sign_stays : (c : ℕ) → may_stand_in_text c ≡ true → sign_of_text c ≡ c ∷ []
text_sign_stays c h = by (c == 10) h where
  by : (b : Bool) → (b || is_harmless c) ≡ true → cond b (c ∷ []) (sign c) ≡ c ∷ []
  by true g = refl
  by false g = sign_stays c g

text_signs_stay : (cs : List ℕ) → list_all may_stand_in_text cs ≡ true → flat_map sign_of_text cs ≡ cs
text_signs_stay [] h = refl
text_signs_stay (c ∷ cs) h =
    let parts = and_parts (may_stand_in_text c) (list_all may_stand_in_text cs) h in
    ap (λ (xs : List ℕ). xs ++ flat_map sign_of_text cs) (text_sign_stays c parts.0)
    ∙ ap (λ (xs : List ℕ). c ∷ xs) (text_signs_stay cs parts.1)

-- a text of several lines that has none of them but line feeds is what stands for it
pub plain_text_stays : (returns : CarriageReturn) (cs : List ℕ) → list_all may_stand_in_text cs ≡ true
    → flat_map sign_of_text (shown returns cs) ≡ cs
plain_text_stays returns cs h = ap (flat_map sign_of_text) (none_left_out returns cs h) ∙ text_signs_stay cs h
