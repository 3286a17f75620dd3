use Rattle.book_merge.proofs.Exchanged.{exchanged_show_the_same}
use Rattle.book_merge.proofs.laws.exchanged_show_the_same.Goals as goal

pub returns : goal.returns
returns c = exchanged_show_the_same
