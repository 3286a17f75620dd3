-- A book's keys with the heads of its chapters (this project's own rule): the keys that may have a
-- text are those with an operation, and the head of each of their chapters, which comes before all
-- others of the chapter.
use Rattle.std.specs.Prelude.{ℕ, ◌==◌, Bool, not, ◌&&◌, List, [], ◌∷◌, ◌++◌, Option, None, Some, if◌then◌else◌}
use Rattle.std.specs.List.{flat_map}
use Rattle.std.specs.Option.{option_to_list}
use Rattle.usfm_ref.specs.Keys.{KeyParts, head_of, is_head}
use Rattle.op_core.specs.Ops.{Operation}
use Rattle.op_core.specs.CutsBack.{picked_at}

-- whether a key is the first of its chapter, after the key before, and is not the chapter's head
abbrev pub lacks_head : Option KeyParts → KeyParts → Bool
lacks_head None key = not (is_head key.place)
lacks_head (Some before) key = not (before.chapter == key.chapter) && not (is_head key.place)

-- a key, after the head of its chapter where it lacks that
abbrev pub with_head : Option KeyParts → KeyParts → List KeyParts
with_head before key = if lacks_head before key then head_of key ∷ key ∷ [] else key ∷ []

-- keys, each after the head of its chapter where it lacks that
abbrev pub with_heads : Option KeyParts → List KeyParts → List KeyParts
with_heads before [] = []
with_heads before (key ∷ keys) = with_head before key ++ with_heads (Some key) keys

-- the keys that a walk still gives: one whose chapter's head was given in its place, and then those
-- after the last that was looked at, with the heads that they lack
abbrev pub keys_left : Option KeyParts → Option KeyParts → List KeyParts → List KeyParts
keys_left before waiting keys = option_to_list waiting ++ with_heads before keys

-- the picked texts of a book at some keys, joined
abbrev pub texts_at : List Operation → List ℕ → List KeyParts → List ℕ
texts_at held book keys = flat_map (picked_at held book) keys
