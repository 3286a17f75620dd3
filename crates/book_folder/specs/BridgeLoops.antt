-- How far the bridges of a file's pieces go, as a walk from the front finds it.
use Rattle.std.specs.Prelude.{List, [], ◌∷◌, Option, None, Some, if◌then◌else◌}
use Rattle.std.specs.Ordering.{is_gt}
use Rattle.usfm_ref.specs.Keys.{KeyParts, key_cmp}
use Rattle.verse_cut.specs.Pieces.{PieceParts}
use Rattle.book_folder.specs.Bridges.{goes_to}

-- the greater of two keys, the first of which may be absent
abbrev pub farther : Option KeyParts → KeyParts → KeyParts
farther None end = end
farther (Some far) end = if is_gt (key_cmp far end) then far else end

-- for each piece, the greatest key to which it goes, or one before it, or which there was before
abbrev pub farthest_from : Option KeyParts → List PieceParts → List KeyParts
farthest_from far [] = []
farthest_from far (p ∷ later) =
    farther far (goes_to p) ∷ farthest_from (Some (farther far (goes_to p))) later
