use Rattle.usfm_cli.proofs.Schedules.Making.{names_what_was_shown}
use Rattle.usfm_cli.proofs.laws.schedules.names_what_was_shown.Goals as goal

pub returns : goal.returns
returns _ = names_what_was_shown
