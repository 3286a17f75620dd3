-- What the readers of lines answer.
use Rattle.std.proofs.Common.{◌≡◌, ◌<◌, ◌^◌, ℕ, true, List, [], ◌∷◌, Option, Some, Result, Ok, Err, IfSome, sym, ap, subst, ◌∙◌, arith}
use Rattle.std.specs.Fmt.{decimal}
use Rattle.std.specs.Result.{result_ok}
use Rattle.std.proofs.lemmas.Fmt.{decimal_digit, decimal_injective}
use Rattle.usfm_ref.specs.Keys.{KeyParts, is_key}
use Rattle.usfm_ref.specs.References.{key_of, key_text}
use Rattle.usfm_ref.specs.declared.fault.RefFault.{RefFault}
use Rattle.usfm_ref.proofs.Spellings.{key_of_is}

-- the digits of 0
pub zero_is : decimal 0 ≡ 48 ∷ []
zero_is = decimal_digit 0 (omega arith)

pub only_zero : (n : ℕ) → n < 2 ^ 64 → 48 ∷ [] ≡ decimal n → 0 ≡ n
only_zero n short e = decimal_injective 0 n (omega arith) short (zero_is ∙ e)

-- a word that is read as a key spells it
pub key_spelled : (text word : List ℕ) (r : Result KeyParts RefFault) (o : Option KeyParts) → o ≡ result_ok r → r ≡ key_of text
    → text ≡ word → IfSome o (λ key. word ≡ key_text key)
key_spelled text word (Ok key) o e f g =
    subst (λ (x : Option KeyParts). IfSome x (λ key. word ≡ key_text key)) (sym e) (sym g ∙ ((key_of_is text key).0 (sym f)).1)
key_spelled text word (Err fault) o e f g =
    subst (λ (x : Option KeyParts). IfSome x (λ key. word ≡ key_text key)) (sym e) tt

-- and the word of a key is read as it
pub key_only : (text word : List ℕ) (r : Result KeyParts RefFault) (o : Option KeyParts) → o ≡ result_ok r → r ≡ key_of text
    → text ≡ word → (key : KeyParts) → is_key key.chapter key.place ≡ true → word ≡ key_text key → o ≡ Some key
key_only text word r o e f g key valid h = e ∙ ap result_ok (f ∙ (key_of_is text key).1 (valid, g ∙ h))
