-- The wording of a text, from its last byte to its first.
use Rattle.std.proofs.Common.{◌≡◌, ℕ, ◌+◌, ◌-◌, ◌≤◌, Bool, true, false, List, [], ◌∷◌, ◌++◌, length, take, get_or, reverse, arith}
use Rattle.std.proofs.Common.{refl, sym, ap, ◌∙◌}
use Rattle.std.proofs.lemmas.Bool.{cond-true, cond-false, false≢true}
use Rattle.std.proofs.lemmas.List.{take_all, take_more, reverse-append, reverse-reverse}
use Rattle.usfm_ref.specs.Books.{same_bytes}
use Rattle.usfm_ref.proofs.Orders.{same_bytes-is, same_bytes-refl}
use Rattle.book_merge.specs.Wordings.{says_nothing, with_byte, wording_before}

-- the last byte of a text comes before the wording that follows
pub last_byte : (front : List ℕ) (b : ℕ) (later : List ℕ)
    → wording_before (front ++ b ∷ []) later ≡ wording_before front (with_byte b later)
unfolding wording_before
last_byte [] b later = refl
last_byte (c ∷ front) b later = ap (with_byte c) (last_byte front b later)

-- where no byte is left, the wording is made
pub none_left : (left later : List ℕ) → length left ≡ 0 → wording_before left later ≡ later
unfolding wording_before
none_left [] later e = refl
none_left (b ∷ left) later e = absurd (omega (arith, e))

-- a text is what comes before its last byte, and that
split_last : (left : List ℕ) → 1 ≤ length left → left ≡ take (length left - 1) left ++ get_or left (length left - 1) 0 ∷ []
split_last left some =
    let n : length left ≡ length left - 1 + 1 = omega arith in
    sym (take_all (length left) left (omega arith)) ∙ ap (λ i. take i left) n ∙ take_more left (length left - 1) 0 (omega arith)

-- with one byte less to come, and with that before the wording
pub step : (left later now : List ℕ) (b : ℕ) → 1 ≤ length left → get_or left (length left - 1) 0 ≡ b → with_byte b later ≡ now
    → wording_before (take (length left - 1) left) now ≡ wording_before left later
step left later now b some is e =
    sym (ap (λ (t : List ℕ). wording_before t later) (split_last left some)
    ∙ last_byte (take (length left - 1) left) (get_or left (length left - 1) 0) later
    ∙ ap (wording_before (take (length left - 1) left)) (ap (λ c. with_byte c later) is ∙ e))

-- a byte that says something is pushed, and any other one is passed over
pub pushed : (made new : List ℕ) (b : ℕ) → new ≡ made ++ b ∷ [] → says_nothing b (reverse made) ≡ false
    → with_byte b (reverse made) ≡ reverse new
pushed made new b e f = cond-false _ _ _ f ∙ sym (ap reverse e ∙ reverse-append made (b ∷ []))

pub passed : (made : List ℕ) (b : ℕ) → says_nothing b (reverse made) ≡ true → with_byte b (reverse made) ≡ reverse made
passed made b t = cond-true _ _ _ t

-- texts are the same where they are backwards
pub same_backwards : (a b : List ℕ) → same_bytes a b ≡ same_bytes (reverse a) (reverse b)
same_backwards a b = by (same_bytes a b) refl (same_bytes (reverse a) (reverse b)) refl
  where
    by : (x : Bool) → same_bytes a b ≡ x → (y : Bool) → same_bytes (reverse a) (reverse b) ≡ y
        → same_bytes a b ≡ same_bytes (reverse a) (reverse b)
    by true e y f =
        e ∙ sym (ap (λ (t : List ℕ). same_bytes (reverse a) (reverse t)) (sym (same_bytes-is a b e)) ∙ same_bytes-refl (reverse a))
    by false e false f = e ∙ sym f
    by false e true f =
        let is : a ≡ b = sym (reverse-reverse a) ∙ ap reverse (same_bytes-is (reverse a) (reverse b) f) ∙ reverse-reverse b in
        absurd (false≢true (sym e ∙ ap (same_bytes a) (sym is) ∙ same_bytes-refl a))
