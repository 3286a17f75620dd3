use Rattle.book_merge.proofs.WholeSides.{ours_alone_is_given}
use Rattle.book_merge.proofs.laws.ours_alone_is_given.Goals as goal

pub returns : goal.returns
returns c = ours_alone_is_given
