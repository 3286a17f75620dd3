use Rattle.std.proofs.Common.{ap}
use Rattle.conflict_report.specs.Reports.{report}
use Rattle.replica_state.proofs.Runs.{same_held}
use Rattle.conflict_report.proofs.laws.same_bundles_same_reports.Goals as goal

pub returns : goal.returns
returns _ name other bundles others s t same ha hb = ap report (same_held name other bundles others s t same ha hb)
