use Rattle.conflict_report.proofs.SameReports.{thinned_bundles_same_reports}
use Rattle.conflict_report.proofs.laws.thinned_bundles_same_reports.Goals as goal

pub returns : goal.returns
returns c = thinned_bundles_same_reports
