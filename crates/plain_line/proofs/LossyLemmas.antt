-- Bytes in which U+FFFD stands for what is no text.
use Rattle.std.proofs.Common.{◌≡◌, ◌≢◌, ℕ, zero, suc, ◌+◌, ◌<◌, Bool, true, false, cond, List, length, take, drop, subst, sym, ap, ◌∙◌, refl, arith, ⊎_elim, length-drop}
use Rattle.std.proofs.Math.Seq.{take-length}
use Rattle.std.proofs.lemmas.Bool.{cases_eq}
use Rattle.std.proofs.lemmas.Str.{IsUtf8-nil, IsUtf8-append, IsUtf8-encode, IsUtf8-from_is_utf8, utf8_lossy-IsUtf8, utf8_lossy_step, utf8_valid_len_le}
use Rattle.std.specs.Char.{encode_utf8}
use Rattle.std.specs.Str.{IsUtf8, is_utf8}
use Rattle.std.specs.Str.Lossy.{valid_len_up_to, utf8_valid_len, utf8_error_len, utf8_invalid_len, utf8_lossy, after_first_chunk, replacement_bytes}

front_is_text : (bs : List ℕ) (n : ℕ) → IsUtf8 (take (valid_len_up_to bs n) bs)
front_is_text bs zero = IsUtf8-nil
front_is_text bs (suc n) = by (is_utf8 (take (suc n) bs)) refl (front_is_text bs n) where
  by : (b : Bool) → is_utf8 (take (suc n) bs) ≡ b → IsUtf8 (take (valid_len_up_to bs n) bs)
      → IsUtf8 (take (cond b (suc n) (valid_len_up_to bs n)) bs)
  by true e shorter = IsUtf8-from_is_utf8 (take (suc n) bs) e
  by false e shorter = shorter

valid_is_text : (bs : List ℕ) → IsUtf8 (take (utf8_valid_len bs) bs)
unfolding utf8_valid_len
valid_is_text bs = front_is_text bs (length bs)

-- an invalid sequence has a byte, where there is one
invalid_positive : (bs : List ℕ) → 0 < length bs → 0 < utf8_invalid_len bs
unfolding utf8_error_len
invalid_positive bs some = grind (arith)

after_first_is_shorter : (bs : List ℕ) → utf8_valid_len bs ≢ length bs → length (after_first_chunk bs) < length bs
after_first_is_shorter bs faulty =
    let n = utf8_valid_len bs in
    let within = utf8_valid_len_le bs in
    let some = invalid_positive (drop n bs) (omega (arith, length-drop n bs)) in
    omega (arith, length-drop (n + utf8_invalid_len (drop n bs)) bs)

lossy_within : (most : ℕ) (bs : List ℕ) → length bs < most → IsUtf8 (utf8_lossy bs)
unfolding encode_utf8
lossy_within zero bs short = absurd (omega arith)
lossy_within (suc most) bs short = ⊎_elim
    (λ (e : utf8_valid_len bs ≡ length bs).
    let u = subst IsUtf8 (ap (λ n. take n bs) e ∙ take-length bs) (valid_is_text bs) in
    subst IsUtf8 (sym (utf8_lossy-IsUtf8 bs u)) u)
    (λ (e : utf8_valid_len bs ≢ length bs).
    let shorter = after_first_is_shorter bs e in
    let rest = lossy_within most (after_first_chunk bs) (omega arith) in
    subst IsUtf8 (sym (utf8_lossy_step bs e))
    (IsUtf8-append _ _ (valid_is_text bs) (IsUtf8-append replacement_bytes _ (IsUtf8-encode 65533 refl) rest)))
    (cases_eq (utf8_valid_len bs) (length bs))

-- they are a text
pub lossy_is_text : (bs : List ℕ) → IsUtf8 (utf8_lossy bs)
lossy_is_text bs = lossy_within (suc (length bs)) bs (omega arith)
