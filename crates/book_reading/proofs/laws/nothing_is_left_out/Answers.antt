use Rattle.book_reading.proofs.Joins.{nothing_left_out}
use Rattle.book_reading.proofs.laws.nothing_is_left_out.Goals as goal

pub returns : goal.returns
returns c = nothing_left_out
