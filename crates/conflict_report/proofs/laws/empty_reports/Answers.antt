use Rattle.conflict_report.proofs.Emptiness.{empty_reports}
use Rattle.conflict_report.proofs.laws.empty_reports.Goals as goal

pub returns : goal.returns
returns c = empty_reports
