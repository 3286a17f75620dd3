use Rattle.kept_days.proofs.Names.{gone_are}
use Rattle.kept_days.proofs.days.days_to_go.Goals as goal

pub returns : goal.returns
returns c = gone_are c.saturating_sub.result c.args.days.now c.saturating_sub.ensures
