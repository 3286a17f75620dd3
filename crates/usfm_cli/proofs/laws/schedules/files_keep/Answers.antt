use Rattle.usfm_cli.proofs.Schedules.Laws.{files_keep}
use Rattle.usfm_cli.proofs.laws.schedules.files_keep.Goals as goal

pub returns : goal.returns
returns _ = files_keep
