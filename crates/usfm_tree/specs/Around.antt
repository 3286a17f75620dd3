-- A node around a place of a tree.
use Rattle.sty_sheet.specs.declared.kind.StyleKind.{StyleKind}
use Rattle.std.specs.Prelude.{Bool}
use Rattle.usfm_token.specs.Tokens.{MarkParts}

-- a node around a place: its kind, its mark, and whether it ends with a closing mark of its own
pub record Around : Type 0 where
  pub kind : StyleKind
  pub mark : MarkParts
  pub is_closed : Bool
