-- What is kept of operations, in a map by their ids.
use Rattle.std.specs.Prelude.{◌≡◌, List, Option, Some, None, if◌then◌else◌}
use Rattle.std.specs.BTreeMap.{BTreeMap, get as value_at}
use Rattle.op_core.specs.Ids.{Id, id_cmp, same_id}
use Rattle.op_core.specs.Ops.{Operation}
use Rattle.op_core.specs.Sets.{get}
use Rattle.segment_history.specs.Histories.{KeptPart, NotHeld, kept_of}
use Rattle.segment_history.specs.Entries.{kept_part}
use Rattle.segment_history.specs.declared.entry.Kept.{Kept}

-- what is kept, where something is
abbrev pub part_or_none : Option Kept → KeptPart
part_or_none None = NotHeld
part_or_none (Some kept) = kept_part kept

-- what is kept under an id
abbrev pub kept_under : BTreeMap Id Kept → Id → KeptPart
kept_under m id = part_or_none (value_at id_cmp m id)

-- a map has what is kept of the operation of each id
abbrev pub HasTexts : List Operation → BTreeMap Id Kept → Type 0
HasTexts ops m = (id : Id) → kept_under m id ≡ kept_of (get ops id)

-- a map with what is kept of an operation put under its id
abbrev pub PutsText : Operation → BTreeMap Id Kept → BTreeMap Id Kept → Type 0
PutsText o m n = (id : Id) →
    kept_under n id ≡ (if same_id id o.id then kept_of (Some o) else kept_under m id)
