use Rattle.conflict_report.proofs.Worlds.{stand_ins_report}
use Rattle.conflict_report.proofs.laws.worlds.stand_ins_report_same.Goals as goal

pub returns : goal.returns
returns _ = stand_ins_report
