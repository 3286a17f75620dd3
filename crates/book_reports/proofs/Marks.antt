-- How long a mark is, part by part.
use Rattle.std.proofs.Common.{◌≡◌, ℕ, ◌+◌, Bool, true, false, cond, ◌==◌, List, ◌++◌, length, drop, refl, sym, ap, ◌∙◌, arith, length-append}
use Rattle.std.specs.Prelude.{slice_index}
use Rattle.std.specs.List.{prefix_len}
use Rattle.std.proofs.lemmas.List.Folds.{length-prefix_len}
use Rattle.usfm_token.specs.Tokens.{is_name_byte, optional_byte, mark_bytes, mark_after, after_plus}

plus_dropped : (bs : List ℕ) (b : Bool) → drop (length (optional_byte b 43)) bs ≡ cond b (drop 1 bs) bs
plus_dropped bs true = refl
plus_dropped bs false = refl

-- the parts of a mark after its backslash have its length together
pub parts_length : (bs name_on rest : List ℕ) (plus name star : ℕ) → plus ≡ length (optional_byte (slice_index bs 0 == 43) 43)
    → name_on ≡ drop plus bs → name ≡ prefix_len is_name_byte name_on → rest ≡ drop name name_on
    → star ≡ length (optional_byte (slice_index rest 0 == 42) 42) → 1 + plus + name + star ≡ length (mark_bytes (mark_after bs))
parts_length bs name_on rest plus name star plus_is on_is name_is rest_is star_is =
    let m = mark_after bs in
    let on : name_on ≡ after_plus bs = on_is ∙ ap (λ n. drop n bs) plus_is ∙ plus_dropped bs (slice_index bs 0 == 43) in
    let whole : name ≡ length m.name = name_is ∙ ap (prefix_len is_name_byte) on ∙ sym (length-prefix_len is_name_byte (after_plus bs)) in
    let after : rest ≡ drop (length m.name) (after_plus bs) = rest_is ∙ (λ i. drop (whole i) (on i)) in
    let end : star ≡ length (optional_byte m.closing 42) = star_is ∙ ap (λ r. length (optional_byte (slice_index r 0 == 42) 42)) after in
    let front = length-append (optional_byte m.nested 43) (m.name ++ optional_byte m.closing 42) in
    let back = length-append m.name (optional_byte m.closing 42) in omega arith
