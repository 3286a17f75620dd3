use Rattle.plain_reading.proofs.InkLaws.{nothing_left_out}
use Rattle.plain_reading.proofs.laws.nothing_is_left_out.Goals as goal

pub returns : goal.returns
returns c = nothing_left_out
