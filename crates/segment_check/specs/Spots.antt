-- The marks of a tree, each with the nodes around it.
use Rattle.sty_sheet.specs.declared.kind.StyleKind.{StyleKind}
use Rattle.std.specs.Prelude.{ℕ, Bool, false, List, [], ◌∷◌, ◌++◌, Option, None, Some}
use Rattle.std.specs.Option.{is_some}
use Rattle.usfm_token.specs.Tokens.{MarkParts}
use Rattle.usfm_tree.specs.Around.{Around}
use Rattle.usfm_tree.specs.Forest.{Forest, nothing, text, leaf, node}

-- A mark of a tree: where it begins; the kind of the node that it begins, or none where it is a
-- leaf; whether that node ends with a closing mark; and the nodes around it, the innermost first.
pub record Spot : Type 0 where
  pub start : ℕ
  pub mark : MarkParts
  pub node : Option StyleKind
  pub is_closed : Bool
  pub around : List Around

-- the marks within nodes, in order; the closing mark of a node belongs to the node
abbrev pub spots : List Around → Forest → List Spot
spots around nothing = []
spots around (text s t f) = spots around f
spots around (leaf s m f) =
    record { start = s; mark = m; node = None; is_closed = false; around = around } ∷ spots around f
spots around (node k s b m ks c f) =
    record { start = s; mark = m; node = Some k; is_closed = is_some c; around = around }
    ∷ (spots (record { kind = k; mark = m; is_closed = is_some c } ∷ around) ks ++ spots around f)
