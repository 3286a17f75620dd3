use Rattle.std.proofs.Common.{◌≡◌, ◌∙◌, rules, length, sym, arith}
use Rattle.std.proofs.lemmas.Str.{utf8_valid_len-IsUtf8}
use Rattle.std.proofs.lemmas.List.{take_all}
use Rattle.std.specs.Str.Lossy.{utf8_valid_len}
use Rattle.book_folder.proofs.files.text_front.Goals as goal

pub returns-in-Ok : goal.returns-in-Ok
returns-in-Ok c =
    let all : utf8_valid_len c.args.file.now ≡ length c.args.file.now =
    utf8_valid_len-IsUtf8 c.args.file.now (c.in-Ok.ensures.accepts.0 (search rules)) in
    c.in-Ok.ensures.text ∙ sym (take_all (utf8_valid_len c.args.file.now) c.args.file.now (omega (arith, all)))
