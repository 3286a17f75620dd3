use Rattle.book_merge.proofs.WholeSides.{theirs_alone_is_given}
use Rattle.book_merge.proofs.laws.theirs_alone_is_given.Goals as goal

pub returns : goal.returns
returns c = theirs_alone_is_given
