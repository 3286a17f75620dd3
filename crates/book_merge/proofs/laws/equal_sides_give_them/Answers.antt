use Rattle.book_merge.proofs.WholeSides.{equal_sides_give_them}
use Rattle.book_merge.proofs.laws.equal_sides_give_them.Goals as goal

pub returns : goal.returns
returns c = equal_sides_give_them
