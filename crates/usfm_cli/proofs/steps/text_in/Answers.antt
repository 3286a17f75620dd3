use Rattle.std.proofs.Common.{◌≡◌, ℕ, Bool, true, false, List, IsUtf8, refl, ap}
use Rattle.std.specs.Str.{is_utf8}
use Rattle.std.proofs.lemmas.Str.{IsUtf8-from_is_utf8, is_utf8-from_IsUtf8}
use Rattle.std.proofs.lemmas.Result.{err_from_is_err_and}
use Rattle.command_faults.specs.Faults.{of_text}
use Rattle.usfm_cli.proofs.steps.text_in.Goals as goal

no_text : (bytes : List ℕ) → (IsUtf8 bytes → false ≡ true) → is_utf8 bytes ≡ false
no_text bytes is = by (is_utf8 bytes) refl
  where
    by : (b : Bool) → is_utf8 bytes ≡ b → is_utf8 bytes ≡ false
    by true e = absurd (cc (is (IsUtf8-from_is_utf8 bytes e)))
    by false e = e

pub returns-in_err-read_text-clause-refused : goal.returns-in_err-read_text-clause-refused
returns-in_err-read_text-clause-refused c =
    let fault = err_from_is_err_and c.from_residual.result c.from_residual.ensures.1 in
    rw (fault.1, fault.2) (no_text c.args.bytes.now c.in_err-read_text.ensures.accepts.1, ap of_text c.in_err-read_text.ensures.fault)

pub returns-clause-ok : goal.returns-clause-ok
returns-clause-ok c = (is_utf8-from_IsUtf8 c.args.bytes.now (c.in_ok-read_text.ensures.accepts.0 refl), c.in_ok-read_text.ensures.text)
