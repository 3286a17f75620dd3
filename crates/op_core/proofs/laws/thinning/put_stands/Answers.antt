use Rattle.op_core.proofs.ThinnedSets.Alike.{put_stands}
use Rattle.op_core.proofs.laws.thinning.put_stands.Goals as goal

pub returns : goal.returns
returns _ = λ s u o h f n. put_stands s u h o f n
