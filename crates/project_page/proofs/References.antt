-- Texts with references in the place of what HTML reads as markup.
use Rattle.std.proofs.Common.{◌≡◌, ℕ, ◌/◌, ◌%◌, ◌+◌, ◌≤◌, ◌==◌, nat_lt, Bool, true, false, not, cond, ◌||◌, List, [], ◌∷◌, ◌++◌, chars, codes, encode_utf8_all, refl, ap, ◌∙◌, arith}
use Rattle.std.proofs.lemmas.Bool.{and_parts}
use Rattle.std.proofs.lemmas.Bool.Decides.{nat_tests}
use Rattle.std.proofs.lemmas.List.{append-nil}
use Rattle.std.proofs.lemmas.List.Folds.{list_all-append, list_any-append}
use Rattle.std.proofs.lemmas.Str.{chars-encodes, encodes-append, scalars-chars}
use Rattle.std.specs.Char.{encode_utf8, IsScalar}
use Rattle.std.specs.List.{flat_map, list_all, list_any}
use Rattle.std.specs.Str.{all_scalars}
use Rattle.plain_line.specs.Plain.{is_obeyed, text}
use Rattle.plain_line.proofs.ControlLemmas.{both, may_stand_in_text, scalars-append}
use Rattle.plain_line.proofs.LineLemmas.{text_is_plain, text_is_utf8}
use Rattle.project_page.specs.Said.{is_noncharacter, reference, said}
use Rattle.project_page.specs.Laws.{is_markup, begins_reference, refers, may_stand, SaidHasNoMarkup, SaidMayStand, SaidRefers}

-- what holds of each reference, of U+FFFD, and of each other character, holds of what stands for a character
pub each_of : (P : List ℕ → Type 0) (c : ℕ) → P (codes "&amp;") → P (codes "&lt;") → P (codes "&gt;") → P (codes "&quot;")
    → P (codes "&#39;") → P (0xFFFD ∷ [])
    → ((c == 38) ≡ false → is_markup c ≡ false → is_noncharacter c ≡ false → P (c ∷ [])) → P (reference c)
each_of P c amp lt gt quot apos none other =
    by (c == 38) refl (c == 60) refl (c == 62) refl (c == 34) refl (c == 39) refl (is_noncharacter c) refl
  where
    by : (v : Bool) → (c == 38) ≡ v → (w : Bool) → (c == 60) ≡ w → (x : Bool) → (c == 62) ≡ x → (y : Bool) → (c == 34) ≡ y
        → (z : Bool) → (c == 39) ≡ z → (n : Bool) → is_noncharacter c ≡ n
        → P (cond v (codes "&amp;") (cond w (codes "&lt;") (cond x (codes "&gt;") (cond y (codes "&quot;")
        (cond z (codes "&#39;") (cond n (0xFFFD ∷ []) (c ∷ [])))))))
    by true e w f x g y h z k n l = amp
    by false e true f x g y h z k n l = lt
    by false e false f true g y h z k n l = gt
    by false e false f false g true h z k n l = quot
    by false e false f false g false h true k n l = apos
    by false e false f false g false h false k true l = none
    by false e false f false g false h false k false l = other e (λ i. f i || g i || h i || k i) l

-- what holds of a character and of each byte above ASCII, holds of the character's bytes
of_bytes : (p : ℕ → Bool) (c : ℕ) → p c ≡ true → ((b : ℕ) → 128 ≤ b → p b ≡ true) → list_all p (encode_utf8 c) ≡ true
unfolding encode_utf8
of_bytes p c own high = by (nat_lt c 128) (nat_lt c 2048) (nat_lt c 65536)
  where
    next : (n : ℕ) → p (128 + n % 64) ≡ true
    next n = high (128 + n % 64) (omega arith)

    by : (x y z : Bool) → list_all p (cond x (c ∷ []) (cond y ((192 + c / 64) ∷ (128 + c % 64) ∷ [])
        (cond z ((224 + c / 4096) ∷ (128 + c / 64 % 64) ∷ (128 + c % 64) ∷ [])
        ((240 + c / 262144) ∷ (128 + c / 4096 % 64) ∷ (128 + c / 64 % 64) ∷ (128 + c % 64) ∷ [])))) ≡ true
    by true y z = both _ true own refl
    by false true z = both _ _ (high (192 + c / 64) (omega arith)) (both _ true (next c) refl)
    by false false true =
        both _ _ (high (224 + c / 4096) (omega arith)) (both _ _ (next (c / 64)) (both _ true (next c) refl))
    by false false false =
        both _ _ (high (240 + c / 262144) (omega arith))
        (both _ _ (next (c / 4096)) (both _ _ (next (c / 64)) (both _ true (next c) refl)))

-- ---- markup

no_markup_above : (b : ℕ) → 128 ≤ b → not (is_markup b) ≡ true
no_markup_above b h = grind (arith, nat_tests)

none_of : (bytes : List ℕ) → list_all (λ b. not (is_markup b)) bytes ≡ true → list_any is_markup bytes ≡ false
none_of [] h = refl
none_of (b ∷ bytes) h =
    let parts = and_parts _ _ h in
    by (is_markup b) parts.0 (none_of bytes parts.1)
  where
    by : (x : Bool) → not x ≡ true → list_any is_markup bytes ≡ false → (x || list_any is_markup bytes) ≡ false
    by true h rest = cc h
    by false h rest = rest

character_no_markup : (c : ℕ) → is_markup c ≡ false → list_any is_markup (encode_utf8_all (c ∷ [])) ≡ false
character_no_markup c m =
    ap (list_any is_markup) (append-nil (encode_utf8 c))
    ∙ none_of (encode_utf8 c) (of_bytes (λ b. not (is_markup b)) c (ap not m) no_markup_above)

no_markup : (cs : List ℕ) → list_any is_markup (encode_utf8_all (flat_map reference cs)) ≡ false
unfolding encode_utf8
no_markup [] = refl
no_markup (c ∷ cs) =
    ap (list_any is_markup) (encodes-append (reference c) (flat_map reference cs))
    ∙ list_any-append is_markup (encode_utf8_all (reference c)) (encode_utf8_all (flat_map reference cs))
    ∙ (λ i. each_of (λ (xs : List ℕ). list_any is_markup (encode_utf8_all xs) ≡ false) c refl refl refl refl refl refl
    (λ e m n. character_no_markup c m) i || no_markup cs i)

pub said_has_no_markup : SaidHasNoMarkup
unfolding said
said_has_no_markup returns bytes = no_markup (chars (text returns bytes))

-- ---- references

no_reference_above : (b : ℕ) → 128 ≤ b → not (b == 38) ≡ true
no_reference_above b h = grind (arith, nat_tests)

-- bytes that begin no reference, before a text
before_text : (bytes later : List ℕ) → list_all (λ b. not (b == 38)) bytes ≡ true → refers later ≡ true → refers (bytes ++ later) ≡ true
before_text [] later h r = r
before_text (b ∷ bytes) later h r =
    let parts = and_parts _ _ h in
    both _ _ (ap (λ (x : Bool). x || begins_reference (b ∷ (bytes ++ later))) parts.0) (before_text bytes later parts.1 r)

character_refers : (c : ℕ) (later : List ℕ) → (c == 38) ≡ false → refers later ≡ true → refers (encode_utf8_all (c ∷ []) ++ later) ≡ true
character_refers c later e r =
    ap (λ (xs : List ℕ). refers (xs ++ later)) (append-nil (encode_utf8 c))
    ∙ before_text (encode_utf8 c) later (of_bytes (λ b. not (b == 38)) c (ap not e) no_reference_above) r

all_refer : (cs : List ℕ) → refers (encode_utf8_all (flat_map reference cs)) ≡ true
unfolding encode_utf8
all_refer [] = refl
all_refer (c ∷ cs) =
    let later = encode_utf8_all (flat_map reference cs) in
    let h = all_refer cs in
    ap refers (encodes-append (reference c) (flat_map reference cs))
    ∙ each_of (λ (xs : List ℕ). refers (encode_utf8_all xs ++ later) ≡ true) c h h h h h h (λ e m n. character_refers c later e h)

pub said_refers : SaidRefers
unfolding said
said_refers returns bytes = all_refer (chars (text returns bytes))

-- ---- characters that may not stand

stays : (a b d : Bool) → (a || not b) ≡ true → d ≡ false → (a || not (b || d)) ≡ true
stays true b d h e = refl
stays false true d h e = cc h
stays false false d h e = ap not e

reference_may_stand : (c : ℕ) → may_stand_in_text c ≡ true → list_all may_stand (reference c) ≡ true
reference_may_stand c h =
    each_of (λ (xs : List ℕ). list_all may_stand xs ≡ true) c refl refl refl refl refl refl
    (λ e m n. both _ true (stays (c == 10) (is_obeyed c) (is_noncharacter c) h n) refl)

reference_is_scalars : (c : ℕ) → IsScalar c → all_scalars (reference c) ≡ true
reference_is_scalars c s =
    each_of (λ (xs : List ℕ). all_scalars xs ≡ true) c refl refl refl refl refl refl (λ e m n. both _ true s refl)

all_may_stand : (cs : List ℕ) → list_all may_stand_in_text cs ≡ true → all_scalars cs ≡ true
    → (list_all may_stand (flat_map reference cs) ≡ true) × (all_scalars (flat_map reference cs) ≡ true)
all_may_stand [] h s = (refl, refl)
all_may_stand (c ∷ cs) h s =
    let fit = and_parts (may_stand_in_text c) (list_all may_stand_in_text cs) h in
    let are = and_parts _ _ s in
    let rest = all_may_stand cs fit.1 are.1 in (
      list_all-append may_stand (reference c) (flat_map reference cs) ∙ both _ _ (reference_may_stand c fit.0) rest.0,
      scalars-append (reference c) (flat_map reference cs) (reference_is_scalars c are.0) rest.1,
    )

pub said_may_stand : SaidMayStand
unfolding said
said_may_stand returns bytes u =
    let cs = chars (text returns bytes) in
    let all = all_may_stand cs (text_is_plain returns bytes u) (scalars-chars _ (text_is_utf8 returns bytes u)) in
    ap (list_all may_stand) (chars-encodes _ all.1) ∙ all.0
