-- What a contract sees of a tree: what is under its root, and the text that it was read from.
use Rattle.std.specs.Prelude.{ℕ, List}
use Rattle.usfm_tree.specs.Forest.{Forest}
use Rattle.usfm_tree.specs.Views.{forest_of}
use Rattle.usfm_tree.specs.declared.tree.Tree.{Tree}

-- what is under the root of a tree
abbrev pub forest_in : Tree → Forest
forest_in tree = forest_of tree.kids.items

-- the text that a tree was read from
abbrev pub source_of : Tree → List ℕ
source_of tree = tree.source.now
