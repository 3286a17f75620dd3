use Rattle.usfm_cli.proofs.Schedules.Laws.{fronts_are_refused}
use Rattle.usfm_cli.proofs.laws.schedules.fronts_are_refused.Goals as goal

pub returns : goal.returns
returns _ past name s bytes d f front some = fronts_are_refused past d name s bytes f front some
