use Rattle.usfm_cli.proofs.Schedules.Laws.{deltas_bring_union}
use Rattle.usfm_cli.proofs.laws.schedules.deltas_bring_union.Goals as goal

pub returns : goal.returns
returns _ past a b s t asked sent d f g wrote fits gave room =
    deltas_bring_union past d a b s t asked sent f g wrote fits gave room
