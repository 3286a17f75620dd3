use Rattle.op_core.proofs.Sets.Joinings.{refused_alike}
use Rattle.op_core.proofs.laws.refused_alike.Goals as goal

pub returns : goal.returns
returns _ = refused_alike
