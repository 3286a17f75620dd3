-- Where a text may be cut, in what belongs to the mark before it.
use Rattle.std.proofs.Common.{◌≡◌, ℕ, ◌+◌, ◌<◌, Bool, true, false, cond, List, [], ◌∷◌, refl}
use Rattle.std.proofs.Common.{arith, IsUtf8, eqb-true, ◌==◌}
use Rattle.std.specs.Prelude.{◌||◌, ◌&&◌}
use Rattle.std.proofs.lemmas.List.Sums.{prefix_len-le-length}
use Rattle.std.proofs.lemmas.Str.{IsCharBoundary-start, IsCharBoundary-after_ascii, IsCharBoundary-from_rest, IsUtf8-drop}
use Rattle.std.specs.Str.{IsCharBoundary}
use Rattle.sty_sheet.proofs.WordLemmas.{boundary_after_blanks}
use Rattle.usfm_ref.specs.Numbers.{is_blank}
use Rattle.book_reading.specs.Leads.{blank_length, after_blanks, ends_word, sign_length}

sign_ascii : (b : ℕ) (p q e : Bool) → (b == 43) ≡ p → (b == 45) ≡ q → ((p || q) && e) ≡ true → b < 128
sign_ascii b true q e hp hq h = let is = eqb-true b 43 hp in omega arith
sign_ascii b false true e hp hq h = let is = eqb-true b 45 hq in omega arith
sign_ascii b false false e hp hq h = absurd (cc)

-- a text may be cut after the sign of a note's caller at its front
boundary_after_sign : (bs : List ℕ) → IsUtf8 bs → IsCharBoundary bs (sign_length bs)
boundary_after_sign [] utf8 = IsCharBoundary-start [] utf8
boundary_after_sign (b ∷ bs) utf8 = by ((b == 43 || b == 45) && ends_word bs) refl
  where
    by : (is : Bool) → ((b == 43 || b == 45) && ends_word bs) ≡ is → IsCharBoundary (b ∷ bs) (cond is (1 + blank_length bs) 0)
    by false h = IsCharBoundary-start (b ∷ bs) utf8
    by true h =
        let small : b < 128 = sign_ascii b (b == 43) (b == 45) (ends_word bs) refl refl h in
        let cut : IsCharBoundary (b ∷ bs) 1 = IsCharBoundary-after_ascii (b ∷ bs) 0 utf8 (omega arith) small in
        IsCharBoundary-from_rest (b ∷ bs) 1 (blank_length bs) (omega arith) (boundary_after_blanks bs (IsUtf8-drop (b ∷ bs) 1 utf8 cut))

-- and after the blanks before it
pub boundary_after_gap : (bs : List ℕ) → IsUtf8 bs → IsCharBoundary bs (blank_length bs + sign_length (after_blanks bs))
boundary_after_gap bs utf8 =
    IsCharBoundary-from_rest bs (blank_length bs) (sign_length (after_blanks bs)) (prefix_len-le-length is_blank bs)
    (boundary_after_sign (after_blanks bs) (IsUtf8-drop bs (blank_length bs) utf8 (boundary_after_blanks bs utf8)))
