-- What a book has after a segment (this project's own rule).
use Rattle.std.specs.Prelude.{ℕ, Bool, ◌&&◌, List, Option}
use Rattle.std.specs.List.{find}
use Rattle.std.specs.Ordering.{is_lt}
use Rattle.usfm_ref.specs.Keys.{KeyParts, key_cmp}
use Rattle.usfm_ref.specs.declared.segment.Segment.{Segment}
use Rattle.op_core.specs.Ops.{Operation}
use Rattle.op_core.specs.Export.{exported_keys}
use Rattle.conflict_settling.specs.Before.{is_filled, text_at}

-- whether a key is after that of the segment, and the book has a text there that is not empty
abbrev pub is_after : List Operation → Segment → KeyParts → Bool
is_after held g key = is_lt (key_cmp g.key key) && is_filled held g.book key

-- the first such key of the export
abbrev pub key_after : List Operation → Segment → Option KeyParts
key_after held g = find (is_after held g) (exported_keys held g.book)

-- the text that the book has after the segment, empty where it has none
abbrev pub text_after : List Operation → Segment → List ℕ
text_after held g = text_at held g.book (key_after held g)
