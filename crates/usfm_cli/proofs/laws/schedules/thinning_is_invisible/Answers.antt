use Rattle.usfm_cli.proofs.Schedules.Twins.{write_the_same}
use Rattle.usfm_cli.proofs.laws.schedules.thinning_is_invisible.Goals as goal

pub returns : goal.returns
returns _ past twins name s t d e way f g = write_the_same past twins d e way name s t f g
