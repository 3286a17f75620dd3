use Rattle.usfm_cli.proofs.Schedules.Unchanged.{others_stay}
use Rattle.usfm_cli.proofs.laws.schedules.others_stay.Goals as goal

pub returns : goal.returns
returns _ = others_stay
