use Rattle.usfm_cli.proofs.Schedules.Relays.{relays_tell}
use Rattle.usfm_cli.proofs.laws.schedules.relays_tell.Goals as goal

pub returns : goal.returns
returns _ = relays_tell
