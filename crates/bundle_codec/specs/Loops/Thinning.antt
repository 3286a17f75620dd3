-- How the first thinned operation of a bundle is found that none of its segment names: by a map of
-- the thinned ones.
use Rattle.std.specs.Prelude.{◌≡◌, ◌+◌, ◌&&◌, ℕ, Bool, false, List, [], ◌∷◌, Option, Some, None, Err, if◌then◌else◌}
use Rattle.std.specs.List.{list_any}
use Rattle.std.specs.Option.{is_some}
use Rattle.std.specs.BTreeMap.{BTreeMap, get as value_at}
use Rattle.usfm_ref.specs.Keys.{KeyParts}
use Rattle.usfm_ref.specs.Segments.{segment}
use Rattle.op_core.specs.Ids.{Id, id_cmp}
use Rattle.op_core.specs.Ops.{Operation, is_full, in_segment, names}
use Rattle.op_core.specs.Sets.{get}
use Rattle.op_core.specs.Thinned.{all_full}
use Rattle.bundle_codec.specs.declared.fault.BundleFault.{BundleFault}
use Rattle.bundle_codec.specs.declared.fault.BundleFault.TheVariants.{Memory}
use Rattle.bundle_codec.specs.Reading.{judge_thinned}

-- a segment, as the code of its book and its key
abbrev pub Place : Type 0
Place = List ℕ × KeyParts

-- ids with segments
abbrev pub Places : Type 0
Places = BTreeMap Id Place

-- the segment of an operation that is thinned
abbrev pub thinned_place : Option Operation → Option Place
thinned_place None = None
thinned_place (Some o) = if is_full o then None else Some (o.segment.book, o.segment.key)

-- the map has the thinned operations of a set, and no others
abbrev pub HoldsThinned : List Operation → Places → Type 0
HoldsThinned held m = (id : Id) → value_at id_cmp m id ≡ thinned_place (get held id)

-- whether a segment, if there is one, is that of the operation
abbrev pub is_beside : Option Place → Operation → Bool
is_beside None o = false
is_beside (Some g) o = in_segment (segment g.0 g.1) o

-- whether the operation is of a segment, if there is one, and names the id
abbrev pub is_naming : Id → Option Place → Operation → Bool
is_naming id g o = is_beside g o && names o id

-- what is left at an id, where one of the operations may be of its segment and name it
abbrev pub left_of : List Operation → Id → Option Place → Option Place
left_of ops id g = if list_any (is_naming id g) ops then None else g

-- of a map, all that none of the operations names in its segment is left, and nothing else
abbrev pub LeavesNamed : List Operation → Places → Places → Type 0
LeavesNamed ops m n = (id : Id) → value_at id_cmp n id ≡ left_of ops id (value_at id_cmp m id)

-- the place of the first operation whose id the map has; k is the place of the first of them
abbrev pub first_of : Places → ℕ → List Operation → Option ℕ
first_of m k [] = None
first_of m k (o ∷ rest) =
    if is_some (value_at id_cmp m o.id) then Some k else first_of m (k + 1) rest

-- a refusal is the one that there is, or out of memory where an operation is thinned
abbrev pub RefusesThinned : List Operation → BundleFault → Type 0
RefusesThinned ops Memory = all_full ops ≡ false
RefusesThinned ops fault = judge_thinned false ops ≡ Err fault
