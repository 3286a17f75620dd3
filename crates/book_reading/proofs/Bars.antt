-- The first bar of a text.
use Rattle.std.proofs.Common.{◌≡◌, ℕ, ◌≤◌, List, length, get_or, Option, None, Some, sym, subst, ⊎_elim, arith, unwrap_or, IsUtf8, eqb-true}
use Rattle.std.proofs.lemmas.List.Sums.{position_or_len_is, passes_at_first, prefix_len-le-length}
use Rattle.std.proofs.lemmas.Str.{IsCharBoundary-end, IsCharBoundary-before_ascii}
use Rattle.std.specs.List.{position_or_len}
use Rattle.std.specs.Str.{IsCharBoundary}
use Rattle.std.proofs.str.Laws.{order}
use Rattle.memchr.specs.Find.{IsFirstByte, is_byte}
use Rattle.usfm_token.proofs.TokenLemmas.{not_true}
use Rattle.book_reading.specs.Stretches.{is_bar}

-- what `memchr` gives, or the length, is the place of the first bar
pub first_bar : (bs : List ℕ) (r : Option ℕ) → IsFirstByte (is_byte 124) bs r → unwrap_or r (length bs) ≡ position_or_len is_bar bs
first_bar bs None h =
    sym (position_or_len_is is_bar bs (length bs) 0 (omega arith) (λ k lt. not_true _ (h k (omega arith) lt)) (λ lt. absurd (omega arith)))
first_bar bs (Some k) h =
    sym (position_or_len_is is_bar bs k 0 (omega arith) (λ j lt. not_true _ (h.0.before j (omega arith) lt)) (λ lt. h.1))

-- a text may be cut before its first bar
pub boundary_before_bar : (bs : List ℕ) → IsUtf8 bs → IsCharBoundary bs (position_or_len is_bar bs)
boundary_before_bar bs utf8 =
    ⊎_elim
    (λ within. IsCharBoundary-before_ascii bs _ within
    (let is : get_or bs (position_or_len is_bar bs) 0 ≡ 124 = eqb-true _ _ (passes_at_first is_bar bs 0 within) in omega arith))
    (λ past. let low : position_or_len is_bar bs ≤ length bs = prefix_len-le-length _ bs in let end : length bs
    ≡ position_or_len is_bar bs = omega arith in subst (IsCharBoundary bs) end (IsCharBoundary-end bs))
    (order (position_or_len is_bar bs) (length bs))
