use Rattle.std.proofs.Common.{rules}
use Rattle.std.proofs.lemmas.Str.{is_utf8-from_IsUtf8}
use Rattle.usfm_ref.proofs.Codes.{IsUtf8-from_code}
use Rattle.book_folder.proofs.naming.code_text.Goals as goal

pub unwrap-requires : goal.unwrap-requires
unwrap-requires c =
    let is = is_utf8-from_IsUtf8 c.args.code.now (IsUtf8-from_code c.args.code.now c.requires) in
    search (rules, is)
