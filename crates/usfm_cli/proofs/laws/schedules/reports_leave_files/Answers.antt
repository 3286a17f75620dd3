use Rattle.usfm_cli.proofs.Schedules.Unchanged.{reports_leave_files}
use Rattle.usfm_cli.proofs.laws.schedules.reports_leave_files.Goals as goal

pub returns : goal.returns
returns _ = reports_leave_files
