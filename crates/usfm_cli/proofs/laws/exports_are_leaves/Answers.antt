use Rattle.op_core.specs.Export.{export}
use Rattle.usfm_tree.specs.SheetViews.{styles_in}
use Rattle.usfm_tree.proofs.LeavesLemmas.{tree_bytes}
use Rattle.usfm_cli.proofs.laws.exports_are_leaves.Goals as goal

pub returns : goal.returns
returns _ held book records = tree_bytes (styles_in records) (export held book)
