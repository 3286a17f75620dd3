use Rattle.usfm_cli.proofs.Schedules.Laws.{no_receive_is_refused}
use Rattle.usfm_cli.proofs.laws.schedules.no_receive_is_refused.Goals as goal

pub returns : goal.returns
returns _ past name s bytes d f g = no_receive_is_refused past d name s bytes f g
