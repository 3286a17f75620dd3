use Rattle.book_merge.proofs.WholeSides.{apart_have_changed}
use Rattle.book_merge.proofs.laws.apart_have_changed.Goals as goal

pub returns : goal.returns
returns c = apart_have_changed
