use Rattle.usfm_tree.proofs.LeavesLemmas.{tree_leaves}
use Rattle.usfm_tree.proofs.laws.leaves_are_tokens.Goals as goal

pub returns : goal.returns
returns c = tree_leaves
