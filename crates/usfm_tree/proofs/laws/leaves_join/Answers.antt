use Rattle.usfm_tree.proofs.LeavesLemmas.{tree_bytes}
use Rattle.usfm_tree.proofs.laws.leaves_join.Goals as goal

pub returns : goal.returns
returns c = tree_bytes
