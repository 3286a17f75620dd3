use Rattle.book_merge.proofs.Exchanged.{unions_show_no_other}
use Rattle.book_merge.proofs.laws.unions_show_no_other.Goals as goal

pub returns : goal.returns
returns c = unions_show_no_other
