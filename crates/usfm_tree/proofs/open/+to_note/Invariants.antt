use Rattle.std.proofs.Common.{length}
use Rattle.usfm_tree.proofs.open.+to_note.Given as goal

abbrev pub decreases-to_note : goal.decreases-to_note
decreases-to_note g l = length l.nodes.now
