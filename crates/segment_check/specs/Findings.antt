-- The findings in a text by a style sheet (this project's own rule): at each mark each code whose
-- condition holds.
use Rattle.std.specs.Prelude.{ℕ, ◌==◌, Bool, ◌&&◌, List, [], ◌∷◌, map, filter}
use Rattle.std.specs.List.{flat_map, list_any}
use Rattle.sty_sheet.specs.Records.{Record}
use Rattle.usfm_tree.specs.Reading.{tree_of}
use Rattle.usfm_tree.specs.SheetViews.{styles_in}
use Rattle.verse_cut.specs.Pieces.{PieceParts, pieces_of}
use Rattle.segment_check.specs.Spots.{Spot, spots}
use Rattle.segment_check.specs.Scenes.{Scene, scenes_of}
use Rattle.verse_cut.specs.Places.{key_at}
use Rattle.segment_check.specs.TreeConditions.{unknown_marker, stray_close, unclosed_char, unclosed_note, too_deep, not_under}
use Rattle.segment_check.specs.NumberConditions.{bad_number, bad_bridge, not_rising, overlap}
use Rattle.segment_check.specs.declared.code.Code.{Code}
use Rattle.segment_check.specs.declared.code.Code.TheVariants as code
use Rattle.segment_check.specs.declared.finding.Finding.{Finding}

-- the codes, in the order in which those of one mark are reported
abbrev pub all_codes : List Code
all_codes =
    code.UnknownMarker ∷ code.StrayClose ∷ code.UnclosedChar ∷ code.UnclosedNote ∷ code.TooDeep
    ∷ code.BadNumber ∷ code.BadBridge ∷ code.NotRising ∷ code.Overlap ∷ code.NotUnder ∷ []

-- the mark of a tree that begins at a place passes a test
abbrev pub stands_at : List Spot → ℕ → (Spot → Bool) → Bool
stands_at tree at test = list_any (λ spot. spot.start == at && test spot) tree

-- whether the condition of a code holds of a mark: that of the tree where the mark begins, or that
-- of its number
abbrev pub holds_of : List Record → List Spot → Scene → Code → Bool
holds_of sheet tree scene code.UnknownMarker = stands_at tree scene.here.at (unknown_marker sheet)
holds_of sheet tree scene code.StrayClose = stands_at tree scene.here.at stray_close
holds_of sheet tree scene code.UnclosedChar = stands_at tree scene.here.at unclosed_char
holds_of sheet tree scene code.UnclosedNote = stands_at tree scene.here.at unclosed_note
holds_of sheet tree scene code.TooDeep = stands_at tree scene.here.at (too_deep sheet)
holds_of sheet tree scene code.BadNumber = bad_number scene
holds_of sheet tree scene code.BadBridge = bad_bridge scene
holds_of sheet tree scene code.NotRising = not_rising scene
holds_of sheet tree scene code.Overlap = overlap scene
holds_of sheet tree scene code.NotUnder = stands_at tree scene.here.at (not_under sheet)

-- a finding for each code whose condition holds of a mark, with the mark's start and the key of the
-- piece that holds it
abbrev pub found_at : List Record → List Spot → List PieceParts → Scene → List Finding
found_at sheet tree pieces scene =
    map (λ c. record { code = c; start = scene.here.at; key = key_at pieces scene.here.at })
    (filter (holds_of sheet tree scene) all_codes)

-- the marks of a text's tree
unfoldable pub spots_of : List Record → List ℕ → List Spot
spots_of sheet s = spots [] (tree_of (styles_in sheet) s)

-- the findings in a text: at each of its marks, in order, each code whose condition holds
unfoldable pub findings : List Record → List ℕ → List Finding
findings sheet s = flat_map (found_at sheet (spots_of sheet s) (pieces_of s)) (scenes_of s)
