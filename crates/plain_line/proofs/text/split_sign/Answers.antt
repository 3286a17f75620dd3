use Rattle.std.proofs.Common.{◌≡◌, ◌++◌, length, sym, ap, ◌∙◌, arith, length-append}
use Rattle.std.proofs.lemmas.List.{nil_from_length}
use Rattle.std.proofs.lemmas.Str.{chars_past_char, chars-nil, length-encode, len_utf8_bounds}
use Rattle.std.specs.Prelude.{encode_utf8}
use Rattle.std.specs.Str.{chars}
use Rattle.plain_line.proofs.text.split_sign.Goals as goal

pub returns-in-Some : goal.returns-in-Some
returns-in-Some c =
    let sign = c.in-Some.sign in
    let after = c.as_str.result.now in
    let e : c.args.text.now ≡ encode_utf8 sign ++ after =
    sym c.chars-signs.ensures.rest ∙ c.in-Some.ensures.steps.0 ∙ ap (λ t. encode_utf8 sign ++ t) (sym c.as_str.ensures) in
    let bounds = len_utf8_bounds sign in
    (chars_past_char _ after sign c.utf8.text e, omega (arith, ap length e, length-append (encode_utf8 sign) after, length-encode sign))

pub returns-in-None : goal.returns-in-None
returns-in-None c =
    ap chars (sym c.chars-signs.ensures.rest ∙ nil_from_length _ c.in-None.ensures.steps.0.0) ∙ chars-nil
