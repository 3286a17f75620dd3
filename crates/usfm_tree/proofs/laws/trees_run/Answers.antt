use Rattle.usfm_tree.proofs.PlaceLemmas.{tree_runs}
use Rattle.usfm_tree.proofs.laws.trees_run.Goals as goal

pub returns : goal.returns
returns c = tree_runs
