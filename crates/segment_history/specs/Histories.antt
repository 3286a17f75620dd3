-- The history of a segment (this project's own rule): all that a set holds of it, operation by
-- operation.
use Rattle.std.specs.Prelude.{ℕ, Bool, not, List, ◌++◌, map, filter, reverse, Option, None, Some}
use Rattle.std.specs.List.{flat_map}
use Rattle.usfm_ref.specs.Rising.{rising}
use Rattle.usfm_ref.specs.declared.segment.Segment.{Segment}
use Rattle.op_core.specs.Ids.{Id, id_cmp}
use Rattle.op_core.specs.Ops.{Operation, in_segment, names}
use Rattle.op_core.specs.Sets.{get}
use Rattle.op_core.specs.Lists.{ids_of, is_held}

-- ---- what is told of an operation

-- what is kept of an operation: its text, all but its text, or nothing but its id
pub data KeptPart : Type 0 where
  Whole : (text : List ℕ) → KeptPart
  TextLeftOut : KeptPart
  NotHeld : KeptPart

-- an operation of a segment: its id, what is kept of it, and the ids of the held operations of the
-- segment that name it as replaced
pub record EntryParts : Type 0 where
  pub id : Id
  pub kept : KeptPart
  pub replaced_by : List Id

-- the text of an operation that is held, or that it was left out
abbrev pub with_text : Option (List ℕ) → KeptPart
with_text None = TextLeftOut
with_text (Some text) = Whole text

-- what is kept of an operation that may be held
abbrev pub kept_of : Option Operation → KeptPart
kept_of None = NotHeld
kept_of (Some o) = with_text o.text

-- ---- the operations of one segment

-- the ids of the operations that name an id as replaced
abbrev pub replaced_by : List Operation → Id → List Id
replaced_by ops id = ids_of (filter (λ o. names o id) ops)

-- what is told of the operation of an id
abbrev pub entry_of : List Operation → Id → EntryParts
entry_of ops id =
    record { id = id; kept = kept_of (get ops id); replaced_by = replaced_by ops id }

-- the awaited ids that operations name
abbrev pub awaited_in : List Operation → (Id → Bool) → List Id
awaited_in ops is_awaited = flat_map (λ o. filter is_awaited o.replaced) ops

-- the ids of the operations, and the awaited ones that they name, rising, each once
abbrev pub ids_with : List Operation → (Id → Bool) → List Id
ids_with ops is_awaited = rising id_cmp (ids_of ops ++ awaited_in ops is_awaited)

-- what is told of the operations, and of the awaited ids that they name, ids falling
abbrev pub entries_with : List Operation → (Id → Bool) → List EntryParts
entries_with ops is_awaited = map (entry_of ops) (reverse (ids_with ops is_awaited))

-- ---- the history of a segment of a set

-- the operations of a segment
abbrev pub of_segment : List Operation → Segment → List Operation
of_segment held g = filter (in_segment g) held

-- whether an id is awaited, where an operation names it: no held operation has it
abbrev pub is_lacking : List Operation → Id → Bool
is_lacking held id = not (is_held held id)

-- the ids of a segment that are held or awaited: its operations have them, or name them while no
-- held operation has them; rising, each once
abbrev pub ids_at : List Operation → Segment → List Id
ids_at held g = ids_with (of_segment held g) (is_lacking held)

-- what is told of each operation of a segment, held or awaited, ids falling
abbrev pub entries_at : List Operation → Segment → List EntryParts
entries_at held g = entries_with (of_segment held g) (is_lacking held)

-- a segment with what is told of its operations
pub record HistoryParts : Type 0 where
  pub segment : Segment
  pub entries : List EntryParts

-- the history of a segment
abbrev pub history : List Operation → Segment → HistoryParts
history held g = record { segment = g; entries = entries_at held g }
