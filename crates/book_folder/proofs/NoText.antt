-- Bytes that are no text.
use Rattle.std.proofs.Common.{◌≡◌, ℕ, Bool, true, false, List, IsUtf8, refl}
use Rattle.std.specs.Str.{is_utf8}
use Rattle.std.proofs.lemmas.Str.{IsUtf8-from_is_utf8}

pub no_text : (bytes : List ℕ) → (IsUtf8 bytes → false ≡ true) → is_utf8 bytes ≡ false
no_text bytes is = by (is_utf8 bytes) refl
  where
    by : (b : Bool) → is_utf8 bytes ≡ b → is_utf8 bytes ≡ false
    by true e = absurd (cc (is (IsUtf8-from_is_utf8 bytes e)))
    by false e = e
