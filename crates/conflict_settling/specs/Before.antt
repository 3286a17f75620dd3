-- What a book has before a segment (this project's own rule).
use Rattle.std.specs.Prelude.{ℕ, Bool, not, ◌&&◌, List, [], ◌∷◌, Option, None, Some, if◌then◌else◌}
use Rattle.std.specs.Ordering.{is_lt}
use Rattle.usfm_ref.specs.Keys.{KeyParts, key_cmp}
use Rattle.usfm_ref.specs.declared.segment.Segment.{Segment}
use Rattle.op_core.specs.Ops.{Operation}
use Rattle.op_core.specs.Export.{exported_keys}
use Rattle.op_core.specs.CutsBack.{picked_at}
use Rattle.op_core.specs.Shown.{is_empty}

-- the last of some keys that passes a test, or the one given where none does
abbrev pub last_from : (KeyParts → Bool) → Option KeyParts → List KeyParts → Option KeyParts
last_from p last [] = last
last_from p last (key ∷ keys) = last_from p (if p key then Some key else last) keys

-- whether the book has a text at a key that is not empty
abbrev pub is_filled : List Operation → List ℕ → KeyParts → Bool
is_filled held book key = not (is_empty (picked_at held book key))

-- whether a key is before that of the segment, and the book has a text there that is not empty
abbrev pub is_before : List Operation → Segment → KeyParts → Bool
is_before held g key = is_lt (key_cmp key g.key) && is_filled held g.book key

-- the last such key of the export
abbrev pub key_before : List Operation → Segment → Option KeyParts
key_before held g = last_from (is_before held g) None (exported_keys held g.book)

-- the text that the book has at a key, if there is one
abbrev pub text_at : List Operation → List ℕ → Option KeyParts → List ℕ
text_at held book None = []
text_at held book (Some key) = picked_at held book key

-- the text that the book has before the segment, empty where it has none
abbrev pub text_before : List Operation → Segment → List ℕ
text_before held g = text_at held g.book (key_before held g)
