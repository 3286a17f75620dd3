use Rattle.usfm_cli.proofs.Schedules.Laws.{shown_at_last}
use Rattle.usfm_cli.proofs.laws.schedules.shown_in_the_end.Goals as goal

pub returns : goal.returns
returns _ past name s id o d f g = shown_at_last past d name s id o f g
