-- The operations of some segments, gathered in a map, and what is looked up among those of one.
use Rattle.std.specs.Prelude.{◌≡◌, Bool, not, ◌&&◌, List, [], ◌∷◌, ◌++◌, Option, Some, None, Vec, option_map, if◌then◌else◌}
use Rattle.std.specs.List.{list_any}
use Rattle.std.specs.Option.{is_some, unwrap_or}
use Rattle.std.specs.BTreeMap.{BTreeMap, get as value_at}
use Rattle.std.specs.BTreeSet.{BTreeSet, contains}
use Rattle.usfm_ref.specs.Segments.{segment_cmp, same_segment}
use Rattle.usfm_ref.specs.declared.segment.Segment.{Segment}
use Rattle.op_core.specs.Ids.{Id, id_cmp, same_id}
use Rattle.op_core.specs.Ops.{Operation, names}
use Rattle.op_core.specs.Lists.{is_held}
use Rattle.segment_history.specs.Histories.{of_segment, replaced_by}

-- ---- operations by their segments

-- the operations under a segment, if it is there
abbrev pub ops_under : {A : Type 0} → BTreeMap Segment (Vec Operation A) → Segment
    → Option (List Operation)
ops_under m g = option_map (λ v. v.items) (value_at segment_cmp m g)

-- the operations under a segment, none where it is not there
abbrev pub ops_of : {A : Type 0} → BTreeMap Segment (Vec Operation A) → Segment → List Operation
ops_of m g = unwrap_or (ops_under m g) []

-- a map with an operation more, if its segment is there
abbrev pub AddsOp : {A : Type 0} → Operation → BTreeMap Segment (Vec Operation A)
    → BTreeMap Segment (Vec Operation A) → Type 0
AddsOp o m n = (g : Segment) →
    ops_under n g ≡ option_map (λ ops. ops ++ of_segment (o ∷ []) g) (ops_under m g)

-- whether the segment is one of these
abbrev pub is_one_of : List Segment → Segment → Bool
is_one_of segments g = list_any (same_segment g) segments

-- a map has these segments, each with its operations
abbrev pub HasSegments : {A : Type 0} → List Operation → List Segment
    → BTreeMap Segment (Vec Operation A) → Type 0
HasSegments held segments m = (g : Segment) →
    ops_under m g ≡ (if is_one_of segments g then Some (of_segment held g) else None)

-- ---- what the gathered operations name

-- whether an operation is gathered, and names the id
abbrev pub is_naming : {A : Type 0} → BTreeMap Segment (Vec Operation A) → Id → Operation → Bool
is_naming m id o = is_some (value_at segment_cmp m o.segment) && names o id

-- a set has the ids that gathered operations name
abbrev pub HasNamed : {A : Type 0} → List Operation → BTreeMap Segment (Vec Operation A)
    → BTreeSet Id → Type 0
HasNamed held m set = (id : Id) → contains id_cmp set id ≡ list_any (is_naming m id) held

-- a set has the ids that gathered operations name and none has
abbrev pub HasAwaited : {A : Type 0} → List Operation → BTreeMap Segment (Vec Operation A)
    → BTreeSet Id → Type 0
HasAwaited held m set = (id : Id) →
    contains id_cmp set id ≡ (list_any (is_naming m id) held && not (is_held held id))

-- ---- ids by those that they replace

-- the ids under an id, none where it is not there
abbrev pub ids_under : {A : Type 0} → BTreeMap Id (Vec Id A) → Id → List Id
ids_under m id = unwrap_or (option_map (λ v. v.items) (value_at id_cmp m id)) []

-- a map with an id more under each that an operation names
abbrev pub AddsNamed : {A : Type 0} → Operation → BTreeMap Id (Vec Id A) → BTreeMap Id (Vec Id A)
    → Type 0
AddsNamed o m n = (id : Id) → ids_under n id ≡ ids_under m id ++ replaced_by (o ∷ []) id

-- a map with an id more under another one
abbrev pub AddsUnder : {A : Type 0} → Id → Id → BTreeMap Id (Vec Id A) → BTreeMap Id (Vec Id A)
    → Type 0
AddsUnder by id m n = (q : Id) →
    ids_under n q ≡ ids_under m q ++ (if same_id q id then by ∷ [] else [])

-- a map has under each id the ids of the operations that name it
abbrev pub HasReplacers : {A : Type 0} → List Operation → BTreeMap Id (Vec Id A) → Type 0
HasReplacers ops m = (id : Id) → ids_under m id ≡ replaced_by ops id
