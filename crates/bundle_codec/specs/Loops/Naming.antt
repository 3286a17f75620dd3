-- What the operations of a bundle name as replaced, gathered by one walk.
use Rattle.std.specs.Prelude.{◌≡◌, Bool, ◌&&◌, ◌||◌, List}
use Rattle.std.specs.Ordering.{ordering_then}
use Rattle.std.specs.BTreeSet.{BTreeSet, contains}
use Rattle.usfm_ref.specs.Books.{book_cmp}
use Rattle.usfm_ref.specs.Keys.{key_cmp}
use Rattle.usfm_ref.specs.declared.segment.Segment.{Segment}
use Rattle.op_core.specs.Ids.{Id, id_cmp}
use Rattle.op_core.specs.Ops.{Operation, in_segment, names}
use Rattle.op_core.specs.Shown.{is_replaced}
use Rattle.bundle_codec.specs.Loops.Thinning.{Place}

-- ids, each with a segment
abbrev pub Named : Type 0
Named = BTreeSet (Id × Place)

-- whether an id is among them with this segment
abbrev pub has_named : Named → Segment → Id → Bool
has_named named g id =
    contains (λ a b. ordering_then (id_cmp a.0 b.0)
    (ordering_then (book_cmp a.1.0 b.1.0) (key_cmp a.1.1 b.1.1))) named (id, (g.book, g.key))

-- those that an operation of the segment names, and no others
abbrev pub HoldsNamed : List Operation → Named → Type 0
HoldsNamed held named = (g : Segment) (id : Id) → has_named named g id ≡ is_replaced held g id

-- what one operation names in its segment comes in addition
abbrev pub AddsNamed : Operation → Named → Named → Type 0
AddsNamed o old new =
    (g : Segment) (id : Id)
    → has_named new g id ≡ (has_named old g id || (in_segment g o && names o id))
