use Rattle.conflict_report.proofs.SameReports.{skeleton_reports}
use Rattle.conflict_report.proofs.laws.skeleton_reports.Goals as goal

pub returns : goal.returns
returns c = skeleton_reports
