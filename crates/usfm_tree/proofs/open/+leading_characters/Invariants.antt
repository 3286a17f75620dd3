use Rattle.std.proofs.Common.{length}
use Rattle.usfm_tree.proofs.open.+leading_characters.Given as goal

abbrev pub decreases-leading_characters : goal.decreases-leading_characters
decreases-leading_characters g l = length l.nodes.now
