-- The marks of a text in the order of its tokens: those of the tree, and the closing marks that end
-- its nodes.
use Rattle.std.specs.Prelude.{ℕ, false, List, [], ◌∷◌, ◌++◌, Option, None, Some}
use Rattle.std.specs.Option.{is_some}
use Rattle.sty_sheet.specs.Records.{Record}
use Rattle.usfm_token.specs.Tokens.{MarkParts}
use Rattle.usfm_tree.specs.Around.{Around}
use Rattle.usfm_tree.specs.Forest.{Forest, nothing, text, leaf, node}
use Rattle.usfm_tree.specs.Reading.{tree_of}
use Rattle.usfm_tree.specs.SheetViews.{styles_in}
use Rattle.segment_check.specs.Spots.{Spot}

-- the closing mark of a node, if it has one, which is no mark of the tree by itself
abbrev pub closing_sight : Option MarkParts → List (Option Spot)
closing_sight None = []
closing_sight (Some m) = None ∷ []

-- the marks within nodes, in order: the marks of the tree, and nothing for each closing mark that
-- ends a node
abbrev pub sights : List Around → Forest → List (Option Spot)
sights around nothing = []
sights around (text s t f) = sights around f
sights around (leaf s m f) =
    Some (record { start = s; mark = m; node = None; is_closed = false; around = around })
    ∷ sights around f
sights around (node k s b m ks c f) =
    Some (record { start = s; mark = m; node = Some k; is_closed = is_some c; around = around })
    ∷ (sights (record { kind = k; mark = m; is_closed = is_some c } ∷ around) ks
    ++ (closing_sight c ++ sights around f))

-- the marks of a text, as its tree has them
unfoldable pub sights_of : List Record → List ℕ → List (Option Spot)
sights_of sheet s = sights [] (tree_of (styles_in sheet) s)
