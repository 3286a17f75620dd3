use Rattle.std.proofs.Common.{sym, ◌∙◌}
use Rattle.merged_file.proofs.NoBook.{refused_empty}
use Rattle.merged_file.proofs.file.export.Goals as goal

pub returns-in-Err-NoBook : goal.returns-in-Err-NoBook
returns-in-Err-NoBook c =
    let none = refused_empty c.args.replica.now.held c.args.book c.in-Err-NoBook.field-0 c.in-Err-NoBook.field-0-is
    c.in-Err-NoBook.ensures in
    c.new.ensures.items ∙ sym none
