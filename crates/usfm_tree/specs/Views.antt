-- What a contract sees of nodes: a forest.
use Rattle.sty_sheet.specs.declared.kind.StyleKind.{StyleKind}
use Rattle.sty_sheet.specs.declared.kind.StyleKind.TheVariants as kinds
use Rattle.std.specs.Prelude.{ℕ, List, [], ◌∷◌, Option, map}
use Rattle.std.specs.Option.{option_map}
use Rattle.usfm_token.specs.Tokens.{MarkParts}
use Rattle.usfm_token.specs.View.{mark_parts}
use Rattle.usfm_tree.specs.Forest.{Forest, nothing, text, leaf, node, ◌then◌}
use Rattle.usfm_tree.specs.declared.node.Node.{Node}
use Rattle.usfm_tree.specs.declared.node.Node.TheOpen.{Node-F, Branch-F, Text, Para, Char, Note, Milestone, Leaf}
use Rattle.usfm_tree.specs.declared.node.Node.TheFolds.{fold-Node, fold-Branch}
use Rattle.usfm_tree.specs.declared.node.Branch.{Branch}

-- forests next to one another
abbrev pub side_by_side : List Forest → Forest
side_by_side [] = nothing
side_by_side (f ∷ fs) = f then (side_by_side fs)

-- the parts of a node that has kids
pub record Parts : Type 0 where
  pub start : ℕ
  pub slice : List ℕ
  pub mark : MarkParts
  pub kids : Forest
  pub close : Option MarkParts

-- the parts of a node, where its kids were seen as forests before
abbrev pub parts_step : Branch-F Forest Parts → Parts
parts_step b = record {
  start = b.start;
  slice = b.slice.now;
  mark = mark_parts b.mark;
  kids = side_by_side b.kids.items;
  close = option_map mark_parts b.close;
}

-- a node of a kind with these parts, and nothing after it
abbrev pub alone : StyleKind → Parts → Forest
alone kind b = node kind b.start b.slice b.mark b.kids b.close nothing

-- a node as a forest of one, where its kids were seen as forests before
abbrev pub node_step : Node-F Forest Parts → Forest
node_step (Text t) = text t.start t.slice.now nothing
node_step (Para b) = alone kinds.Paragraph b
node_step (Char b) = alone kinds.Character b
node_step (Note b) = alone kinds.Note b
node_step (Milestone b) = alone kinds.Milestone b
node_step (Leaf l) = leaf l.start (mark_parts l.mark) nothing

-- a node, as a forest of one
abbrev pub view : Node → Forest
view = fold-Node Forest Parts node_step parts_step

-- nodes that are side by side
abbrev pub forest_of : List Node → Forest
forest_of ns = side_by_side (map view ns)

-- the parts of a branch
abbrev pub branch_parts : Branch → Parts
branch_parts = fold-Branch Forest Parts node_step parts_step

-- a node of a kind with the parts of a branch
abbrev pub branch_of : StyleKind → Branch → Forest
branch_of kind b = alone kind (branch_parts b)
