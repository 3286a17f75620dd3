-- What holds of the trees of all texts, by whatever styles.
use Rattle.std.specs.Prelude.{◌≡◌, ℕ, List, map}
use Rattle.usfm_token.specs.Tokens.{slice_of, tokens_of}
use Rattle.usfm_tree.specs.Forest.{leaves_of, bytes_of}
use Rattle.usfm_tree.specs.Places.{Runs, PartsStand}
use Rattle.usfm_tree.specs.Reading.{Styles, tree_of}

-- the leaves of a tree join to its text
abbrev pub LeavesJoin : Type 0
LeavesJoin = (styles : Styles) (s : List ℕ) → bytes_of (tree_of styles s) ≡ s

-- the leaves of a tree are the tokens of its text
abbrev pub LeavesAreTokens : Type 0
LeavesAreTokens =
    (styles : Styles) (s : List ℕ) → leaves_of (tree_of styles s) ≡ map slice_of (tokens_of s)

-- each entry begins where the one before ends, and a node's slice is the join of its leaves
abbrev pub TreesRun : Type 0
TreesRun = (styles : Styles) (s : List ℕ) → Runs 0 (tree_of styles s)

-- the slice of each part is the text's from the part's start on
abbrev pub TreePartsStand : Type 0
TreePartsStand = (styles : Styles) (s : List ℕ) → PartsStand s (tree_of styles s)
