use Rattle.usfm_cli.proofs.Schedules.Laws.{one_for_each_id}
use Rattle.usfm_cli.proofs.laws.schedules.one_for_each_id.Goals as goal

pub returns : goal.returns
returns _ past a b s t id x y d f g hx hy = one_for_each_id past d a b s t id x y f g hx hy
