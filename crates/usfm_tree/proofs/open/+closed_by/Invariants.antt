use Rattle.std.proofs.Common.{length}
use Rattle.usfm_tree.proofs.open.+closed_by.Given as goal

abbrev pub decreases-closed_by : goal.decreases-closed_by
decreases-closed_by g l = length l.nodes.now
