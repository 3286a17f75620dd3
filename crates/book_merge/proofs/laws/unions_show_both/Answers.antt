use Rattle.book_merge.proofs.Unions.{unions_show_both}
use Rattle.book_merge.proofs.laws.unions_show_both.Goals as goal

pub returns : goal.returns
returns c = unions_show_both
