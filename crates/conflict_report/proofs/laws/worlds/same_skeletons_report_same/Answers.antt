use Rattle.conflict_report.proofs.Worlds.{skeletons_report}
use Rattle.conflict_report.proofs.laws.worlds.same_skeletons_report_same.Goals as goal

pub returns : goal.returns
returns _ = skeletons_report
