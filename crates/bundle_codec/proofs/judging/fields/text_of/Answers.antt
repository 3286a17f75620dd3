use Rattle.std.proofs.Common.{◌≡◌, List, ℕ, true, false, Result, Ok, Err, Bor, IsOk, IfOk, MatchOption, ◌↔◌, refl}
use Rattle.std.proofs.lemmas.Str.{IsUtf8-from_is_utf8, is_utf8-from_IsUtf8}
use Rattle.std.proofs.lemmas.Bool.{false_from_ne_true, false≢true}
use Rattle.std.specs.Result.{result_ok}
use Rattle.std.specs.Str.{is_utf8, IsUtf8}
use Rattle.bundle_codec.proofs.judging.fields.text_of.Goals as goal

-- a text where the bytes are UTF-8, and none where they are not
judged : {E : Type 0} (bytes : List ℕ) (r : Result (Bor (List ℕ)) E) → (IsOk r ↔ IsUtf8 bytes) → IfOk r (λ s. s.now ≡ bytes)
    → MatchOption (result_ok r) (is_utf8 bytes ≡ false) (λ s. (s.now ≡ bytes) × (is_utf8 bytes ≡ true))
judged bytes (Ok s) accepts text = (text, is_utf8-from_IsUtf8 bytes (accepts.0 refl))
judged bytes (Err e) accepts text = false_from_ne_true (is_utf8 bytes) (λ h. false≢true (accepts.1 (IsUtf8-from_is_utf8 bytes h)))

pub returns : goal.returns
returns c = rw c.ok.ensures.value (judged c.args.bytes.now c.read_text.result c.read_text.ensures.accepts c.read_text.ensures.text)
