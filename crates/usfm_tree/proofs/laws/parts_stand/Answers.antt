use Rattle.usfm_tree.specs.Reading.{tree_of}
use Rattle.usfm_tree.proofs.LeavesLemmas.{tree_bytes}
use Rattle.usfm_tree.proofs.PlaceLemmas.{tree_runs, parts_stand}
use Rattle.usfm_tree.proofs.laws.parts_stand.Goals as goal

pub returns : goal.returns
returns c = λ styles s path g e. parts_stand s path (tree_of styles s) g (tree_runs styles s) (tree_bytes styles s) e
