use Rattle.usfm_cli.proofs.Schedules.Laws.{files_are_projects}
use Rattle.usfm_cli.proofs.laws.schedules.files_are_projects.Goals as goal

pub returns : goal.returns
returns _ past name d named short = files_are_projects past d name named short
