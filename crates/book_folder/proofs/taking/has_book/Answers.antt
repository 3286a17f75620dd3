use Rattle.std.proofs.Common.{◌∙◌}
use Rattle.usfm_export.proofs.Heads.{has_key}
use Rattle.book_folder.proofs.taking.has_book.Goals as goal

pub returns : goal.returns
returns c =
    c.is_some.ensures
    ∙ has_key c.args.replica.now.held c.args.book c.keys.result c.next.new.self c.next.result c.keys.ensures c.next.ensures.steps
