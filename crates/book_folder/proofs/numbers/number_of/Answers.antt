use Rattle.book_folder.specs.Naming.{numbers}
use Rattle.book_folder.proofs.numbers.number_of.Goals as goal

pub returns : goal.returns
unfolding numbers
returns c = c.number_in.ensures
