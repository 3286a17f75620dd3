use Rattle.conflict_report.proofs.Worlds.{all_report}
use Rattle.conflict_report.proofs.laws.worlds.all_report_the_same.Goals as goal

pub returns : goal.returns
returns _ = all_report
