-- The code of a book is text.
use Rattle.std.proofs.Common.{◌≡◌, ◌<◌, ℕ, zero, suc, ◌&&◌, true, List, [], ◌∷◌, length, refl, get_or, IsUtf8, arith}
use Rattle.std.proofs.lemmas.Bool.{and_parts}
use Rattle.std.proofs.lemmas.Bool.Decides.{nat_tests}
use Rattle.std.proofs.lemmas.Str.{IsUtf8-from_ascii}
use Rattle.usfm_ref.specs.Books.{is_code_char, is_book_code}

code_low : (c : ℕ) → is_code_char c ≡ true → c < 128
code_low c h = grind (arith, nat_tests)

-- a code has three bytes
pub code_length : (code : List ℕ) → is_book_code code ≡ true → length code ≡ 3
code_length [] h = cc
code_length (a ∷ []) h = cc
code_length (a ∷ b ∷ []) h = cc
code_length (a ∷ b ∷ c ∷ []) h = refl
code_length (a ∷ b ∷ c ∷ d ∷ rest) h = cc

-- a code is ASCII, and so it is text
pub IsUtf8-from_code : (code : List ℕ) → is_book_code code ≡ true → IsUtf8 code
IsUtf8-from_code [] h = cc
IsUtf8-from_code (a ∷ []) h = cc
IsUtf8-from_code (a ∷ b ∷ []) h = cc
IsUtf8-from_code (a ∷ b ∷ c ∷ []) h = IsUtf8-from_ascii (a ∷ b ∷ c ∷ []) low
  where
    tests : ((is_code_char a && is_code_char b) ≡ true) × (is_code_char c ≡ true)
    tests = and_parts (is_code_char a && is_code_char b) (is_code_char c) h

    firsts : (is_code_char a ≡ true) × (is_code_char b ≡ true)
    firsts = and_parts (is_code_char a) (is_code_char b) tests.0

    low : (i : ℕ) → get_or (a ∷ b ∷ c ∷ []) i 0 < 128
    low zero = code_low a firsts.0
    low (suc zero) = code_low b firsts.1
    low (suc (suc zero)) = code_low c tests.1
    low (suc (suc (suc i))) = omega arith
IsUtf8-from_code (a ∷ b ∷ c ∷ d ∷ rest) h = cc
