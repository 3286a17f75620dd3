use Rattle.usfm_cli.proofs.Schedules.Unchanged.{refused_leaves_all}
use Rattle.usfm_cli.proofs.laws.schedules.refused_leaves_all.Goals as goal

pub returns : goal.returns
returns _ = refused_leaves_all
