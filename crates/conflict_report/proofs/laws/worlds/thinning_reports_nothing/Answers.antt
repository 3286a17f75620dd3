use Rattle.conflict_report.proofs.Worlds.{thinning_reports}
use Rattle.conflict_report.proofs.laws.worlds.thinning_reports_nothing.Goals as goal

pub returns : goal.returns
returns _ = thinning_reports
