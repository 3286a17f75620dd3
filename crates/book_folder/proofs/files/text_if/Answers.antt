use Rattle.std.proofs.Common.{Some, rules, refl, ap}
use Rattle.std.proofs.lemmas.Str.{is_utf8-from_IsUtf8}
use Rattle.book_folder.proofs.NoText.{no_text}
use Rattle.book_folder.proofs.files.text_if.Goals as goal

pub returns-in-Ok : goal.returns-in-Ok
returns-in-Ok c =
    rw (is_utf8-from_IsUtf8 c.args.bytes.now (c.in-Ok.ensures.accepts.0 (search rules))) (ap Some c.in-Ok.ensures.text)

pub returns-in-Err-NotUtf8 : goal.returns-in-Err-NotUtf8
returns-in-Err-NotUtf8 c = rw (no_text c.args.bytes.now c.in-Err-NotUtf8.ensures.accepts.1) refl
