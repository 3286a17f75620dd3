-- Lines of texts have no character that a terminal obeys.
use Rattle.std.proofs.Common.{refl, chars, ap, ◌∙◌, ℕ, List}
use Rattle.std.proofs.lemmas.Str.{chars-encodes, scalars-chars}
use Rattle.std.specs.List.{flat_map, list_all}
use Rattle.std.specs.Str.{IsUtf8}
use Rattle.plain_line.specs.Laws.{LineIsPlain, TextIsPlain}
use Rattle.plain_line.specs.Plain.{sign, sign_of_text, shown, line, text}
use Rattle.plain_line.specs.declared.text.CarriageReturn.{CarriageReturn}
use Rattle.plain_line.proofs.ControlLemmas.{is_harmless, may_stand_in_text, signs_pass, sign_is_plain, sign_is_scalar}
use Rattle.plain_line.proofs.ControlLemmas.{text_sign_may_stand, text_sign_is_scalar, shown-scalars}

-- the line of a text has none,
pub line_is_plain : (bytes : List ℕ) → IsUtf8 bytes → LineIsPlain bytes
unfolding line
line_is_plain bytes u =
    let all = signs_pass sign is_harmless (λ d s. sign_is_plain d) sign_is_scalar (chars bytes) (scalars-chars _ u) in
    ap (list_all is_harmless) (chars-encodes _ all.1) ∙ all.0

-- nor has a text of several lines but line feeds,
pub text_is_plain : (returns : CarriageReturn) (bytes : List ℕ) → IsUtf8 bytes → TextIsPlain returns bytes
unfolding text
text_is_plain returns bytes u =
    let are = shown-scalars returns _ (scalars-chars _ u) in
    let signs = shown returns (chars bytes) in
    let all = signs_pass sign_of_text may_stand_in_text (λ d s. text_sign_may_stand d) text_sign_is_scalar signs are in
    ap (list_all may_stand_in_text) (chars-encodes _ all.1) ∙ all.0

-- which is UTF-8
pub text_is_utf8 : (returns : CarriageReturn) (bytes : List ℕ) → IsUtf8 bytes → IsUtf8 (text returns bytes)
unfolding text
text_is_utf8 returns bytes u =
    let are = shown-scalars returns _ (scalars-chars _ u) in
    let signs = shown returns (chars bytes) in
    let all = signs_pass sign_of_text may_stand_in_text (λ d s. text_sign_may_stand d) text_sign_is_scalar signs are in
    (flat_map sign_of_text signs, (all.1, refl))
