-- Thinned operations (this project's own rule): a replaced operation may be kept without its text.
use Rattle.std.specs.Prelude.{◌≡◌, Bool, true, false, not, ◌&&◌, ◌||◌, cond, List, map, filter, Some, IsTrue, Option, None}
use Rattle.std.specs.List.{list_any, list_all}
use Rattle.usfm_ref.specs.declared.segment.Segment.{Segment}
use Rattle.op_core.specs.Ids.{Id, same_id}
use Rattle.op_core.specs.Ops.{Operation, is_full, is_thinned, bare, in_segment}
use Rattle.op_core.specs.Sets.{rises, get}
use Rattle.op_core.specs.Shown.{is_replaced}

-- whether the operation is past: a held operation of its segment names it as replaced
abbrev pub is_past : List Operation → Operation → Bool
is_past held o = is_replaced held o.segment o.id

-- whether each thinned operation is named by one of its segment
abbrev pub is_legal : List Operation → Bool
is_legal held = list_all (λ o. is_full o || is_past held o) held

-- whether none is thinned
abbrev pub all_full : List Operation → Bool
all_full held = list_all is_full held

-- ---- thinning

-- the operation, without its text if one of its segment names it
abbrev pub thinned_in : List Operation → Operation → Operation
thinned_in held o = cond (is_past held o) (bare o) o

-- the set without the texts of the operations that one of their segment names
abbrev pub thin : List Operation → List Operation
thin held = map (thinned_in held) held

-- whether thinning leaves a text out: the operation has one, and one of its segment names it
abbrev pub is_left_out : List Operation → Operation → Bool
is_left_out held o = is_past held o && is_full o

-- the operation, without its text if its id passes
abbrev pub bare_where : (Id → Bool) → Operation → Operation
bare_where p o = cond (p o.id) (bare o) o

-- the set without the texts of the operations whose ids pass
abbrev pub thin_where : (Id → Bool) → List Operation → List Operation
thin_where p held = map (bare_where p) held

-- whether there is an operation, with its text
abbrev pub has_text : Option Operation → Bool
has_text None = false
has_text (Some o) = is_full o

-- whether the set has a thinned operation of the id
abbrev pub is_thinned_in : List Operation → Id → Bool
is_thinned_in held id = list_any (λ o. same_id id o.id && is_thinned o) held

-- each held operation whose id passes is past
abbrev pub ArePast : (Id → Bool) → List Operation → Type 0
ArePast p held =
    (o : Operation) → get held o.id ≡ Some o → IsTrue (p o.id) → IsTrue (is_past held o)

-- ---- sets that are equal but for texts left out

-- the set with all texts left out
abbrev pub skeleton : List Operation → List Operation
skeleton held = map bare held

-- A set in which some operations may be thinned stands for the set that has all of them in full:
-- both rise, the first is legal, their skeletons are equal, and each full operation of the first is
-- in the second.
pub record StandsFor (held whole : List Operation) : Type 0 where
  pub rising : IsTrue (rises held)
  pub whole_rising : IsTrue (rises whole)
  pub legal : IsTrue (is_legal held)
  pub whole_full : IsTrue (all_full whole)
  pub skeletons : skeleton held ≡ skeleton whole
  pub within : (id : Id) (o : Operation) → get held id ≡ Some o → is_full o ≡ true
      → get whole id ≡ Some o

-- an operation is the other one, or the same without its text
pub record StandsIn (o whole : Operation) : Type 0 where
  pub bares : bare o ≡ bare whole
  pub same : is_full o ≡ true → o ≡ whole

-- The set is legal, and each of its operations is the one of its id in a family, in full or
-- thinned: so no id stands for two operations in sets of one family.
pub record IsOf (family : Id → Operation) (held : List Operation) : Type 0 where
  pub rising : IsTrue (rises held)
  pub legal : IsTrue (is_legal held)
  pub each : (id : Id) (o : Operation) → get held id ≡ Some o → StandsIn o (family id)

-- ---- parts of a set

-- the operations whose ids pass
abbrev pub of_ids : (Id → Bool) → List Operation → List Operation
of_ids kept held = filter (λ o. kept o.id) held

-- whether the operation's id is not among those that are known
abbrev pub is_lacked : (Id → Bool) → Operation → Bool
is_lacked knows o = not (knows o.id)

-- whether a thinned operation of the segment is lacked
abbrev pub lacks_thinned : List Operation → (Id → Bool) → Segment → Bool
lacks_thinned held knows g =
    list_any (λ p. in_segment g p && (is_thinned p && is_lacked knows p)) held

-- whether the operation is lacked, or a thinned one of its segment is
abbrev pub is_sent : List Operation → (Id → Bool) → Operation → Bool
is_sent held knows o = is_lacked knows o || lacks_thinned held knows o.segment

-- what is lacked where some ids are known; of a segment of which a thinned operation is lacked, all
-- that is held, since a thinned operation goes with one that names it
abbrev pub delta : List Operation → (Id → Bool) → List Operation
delta held knows = filter (is_sent held knows) held
