use Rattle.std.proofs.Common.{◌≡◌, ◌∙◌, Ok, Err, rules, refl, sym, ap}
use Rattle.std.specs.Str.Lossy.{utf8_valid_len}
use Rattle.std.proofs.lemmas.Str.{is_utf8-from_IsUtf8}
use Rattle.usfm_token.specs.View.{valid_of}
use Rattle.usfm_token.specs.declared.fault.TokenFault.{TokenFault}
use Rattle.book_folder.specs.Taking.{text_or}
use Rattle.book_folder.specs.declared.refusal.FolderFault.TheVariants.{NotText}
use Rattle.book_folder.specs.declared.refusal.Refusal.TheVariants.{Of}
use Rattle.book_folder.proofs.NoText.{no_text}
use Rattle.book_folder.proofs.taking.text_of.Goals as goal

pub returns-in-Ok : goal.returns-in-Ok
returns-in-Ok c =
    rw (is_utf8-from_IsUtf8 c.args.bytes.now (c.in-Ok.ensures.accepts.0 (search rules))) (ap Ok (sym c.in-Ok.ensures.text))

pub returns-in-Err : goal.returns-in-Err
returns-in-Err c =
    let bytes = c.args.bytes.now in
    let refused : text_or c.args.place bytes ≡ Err (Of c.args.place (NotText (utf8_valid_len bytes))) =
    rw (no_text bytes c.in-Err.ensures.accepts.1) refl in
    rw c.not_text.ensures
    (refused ∙ ap (λ (fault : TokenFault). Err (Of c.args.place (NotText (valid_of fault)))) (sym c.in-Err.ensures.fault))
