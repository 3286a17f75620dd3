-- What is shown among the operations of one segment, of those that pass.
use Rattle.std.specs.Prelude.{◌≡◌, ℕ, Bool, true, not, ◌&&◌, List, [], ◌∷◌, map, filter, reverse, Option, None, Some, if◌then◌else◌}
use Rattle.std.specs.BTreeSet.{BTreeSet, contains}
use Rattle.std.specs.List.{list_any}
use Rattle.usfm_ref.specs.Rising.{rising}
use Rattle.usfm_ref.specs.declared.segment.Segment.{Segment}
use Rattle.op_core.specs.Ids.{Id, id_cmp}
use Rattle.op_core.specs.Names.{name_cmp}
use Rattle.op_core.specs.Ops.{Operation, names}
use Rattle.op_core.specs.Thinned.{is_lacked}
use Rattle.bundle_codec.specs.Summaries.{NameRanges, covers}
use Rattle.segment_history.specs.Changes.{ShownParts, ChangedParts, shown_part}

-- whether an operation is known: each is, where it is not said what is known
abbrev pub passes : Option (List NameRanges) → Operation → Bool
passes None o = true
passes (Some known) o = covers known o.id

-- whether the operation passes and names the id
abbrev pub passes_naming : Option (List NameRanges) → Id → Operation → Bool
passes_naming known id o = passes known o && names o id

-- a set has the ids that those of the operations name that pass
abbrev pub HasPassing : List Operation → Option (List NameRanges) → BTreeSet Id → Type 0
HasPassing ops known set = (id : Id) →
    contains id_cmp set id ≡ list_any (passes_naming known id) ops

-- whether the operation passes, and none that passes names it
abbrev pub is_left : List Operation → Option (List NameRanges) → Operation → Bool
is_left ops known o = passes known o && not (list_any (passes_naming known o.id) ops)

-- the operation as one that is shown, if it passes and the set has not its id
abbrev pub if_left : Option (List NameRanges) → BTreeSet Id → Operation → List ShownParts
if_left known named o =
    if passes known o && not (contains id_cmp named o.id) then shown_part o ∷ [] else []

-- those of the operations that pass and that none of these names, ids falling
abbrev pub left_parts : List Operation → Option (List NameRanges) → List ShownParts
left_parts ops known = reverse (map shown_part (filter (is_left ops known) ops))

-- the ids that are known
abbrev pub Known : Type 0
Known = List NameRanges

-- the names under which those of the operations were made that are not known
abbrev pub makers_among : List Operation → Known → List (List ℕ)
makers_among ops known =
    rising name_cmp (map (λ o. o.id.name) (filter (is_lacked (covers known)) ops))

-- what changed in a segment that has these operations
abbrev pub changed_by : List Operation → Known → Segment → ChangedParts
changed_by ops known g = record {
  segment = g;
  makers = makers_among ops known;
  was = left_parts ops (Some known);
  now_shown = left_parts ops None;
}
