-- The names under which copies make operations (this project's own rule: a name is one copy's).
use Rattle.std.specs.Prelude.{ℕ, Bool, true, false, not, ◌&&◌, List, [], ◌∷◌, Option, Some, None, Result, Ok, Err}
use Rattle.std.specs.List.{list_any, filter_map}
use Rattle.bundle_codec.specs.Joining.{whole_at}
use Rattle.bundle_codec.specs.Summaries.{NameRanges, covers, summary_of}
use Rattle.bundle_codec.specs.declared.fault.WholeFault.{WholeFault}
use Rattle.op_core.specs.Ids.{Id}
use Rattle.op_core.specs.Ops.{Operation}
use Rattle.usfm_ref.specs.Books.{same_bytes}

-- whether an operation was made under a name
abbrev pub is_of : List ℕ → Operation → Bool
is_of name o = same_bytes o.id.name name

-- whether one of some operations was made under a name, where there are some
abbrev pub is_among : List ℕ → Result (List Operation) WholeFault → Bool
is_among name (Ok ops) = list_any (is_of name) ops
is_among name (Err fault) = false

-- whether bytes are a bundle that has an operation of a name
abbrev pub has_operation_of : List ℕ → List ℕ → Bool
has_operation_of name bytes = is_among name (whole_at bytes)

-- the summary of operations, where there are some
abbrev pub summary_if : Result (List Operation) WholeFault → Option (List NameRanges)
summary_if (Ok ops) = Some (summary_of ops)
summary_if (Err fault) = None

-- the summary of what bytes are the bundle of
abbrev pub summary_in : List ℕ → Option (List NameRanges)
summary_in bytes = summary_if (whole_at bytes)

-- whether none of some summaries has an id
abbrev pub is_unknown_id : List (List NameRanges) → Id → Bool
is_unknown_id known id = not (list_any (λ s. covers s id) known)

-- whether none of some summaries has the id of an operation
abbrev pub is_unknown : List (List NameRanges) → Operation → Bool
is_unknown known o = is_unknown_id known o.id

-- whether one of some operations was made under a name, and is unknown
abbrev pub is_unknown_among : List ℕ → List (List NameRanges)
    → Result (List Operation) WholeFault → Bool
is_unknown_among name known (Ok ops) = list_any (λ o. is_of name o && is_unknown known o) ops
is_unknown_among name known (Err fault) = false

-- whether bytes are a bundle that has an operation of a name which none of the known bundles has
abbrev pub has_unknown_of : List ℕ → List (List ℕ) → List ℕ → Bool
has_unknown_of name known bytes =
    is_unknown_among name (filter_map summary_in known) (whole_at bytes)
