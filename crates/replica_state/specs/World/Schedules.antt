-- What holds after every list of events, thinnings among them (this project's own rule): what
-- replicas hold of what was made, and what it names.
use Rattle.std.specs.Prelude.{◌≡◌, ℕ, true, List, [], ◌∷◌, ◌++◌, ◌⊎◌}
use Rattle.std.specs.Prelude.{Option, Some, None, IsTrue, slice_get}
use Rattle.std.specs.List.{AllByRecursion}
use Rattle.usfm_ref.specs.declared.segment.Segment.{Segment}
use Rattle.op_core.specs.Ids.{Id}
use Rattle.op_core.specs.Ops.{Operation, bare, agree, in_segment, names}
use Rattle.op_core.specs.Sets.{IsOpSet, rises, get, clash}
use Rattle.op_core.specs.Shown.{is_shown}
use Rattle.op_core.specs.Lists.{shown_ids}
use Rattle.op_core.specs.NextIds.{is_among}
use Rattle.op_core.specs.Thinned.{is_legal, skeleton}
use Rattle.replica_state.specs.World.{World, Event, IsWithin, world, made, replica_name}

-- the set holds the operation, perhaps without its text
abbrev pub Holds : List Operation → Operation → Type 0
Holds held o = get (skeleton held) o.id ≡ Some (bare o)

-- No receiving of a bundle is refused, at whatever replica.
abbrev pub NoReceivingClashes : Type 0
NoReceivingClashes =
    (events : List Event) (name : List ℕ) (k : ℕ) (bundle : List Operation) →
    slice_get (world events).bundles k ≡ Some bundle →
    clash ((world events).held name) bundle ≡ None

-- what each replica holds is a legal set, and so is each bundle
pub record AreSets (w : World) : Type 0 where
  pub held : (name : List ℕ) → IsOpSet (w.held name)
  pub held_legal : (name : List ℕ) → IsTrue (is_legal (w.held name))
  pub bundles : (k : ℕ) (bundle : List Operation) →
      slice_get w.bundles k ≡ Some bundle → IsOpSet bundle
  pub bundles_legal : (k : ℕ) (bundle : List Operation) →
      slice_get w.bundles k ≡ Some bundle → IsTrue (is_legal bundle)

-- What each replica holds is a legal set of operations, each within its ranges, and so is each
-- bundle.
abbrev pub WorldsHoldSets : Type 0
WorldsHoldSets = (events : List Event) → AllByRecursion IsWithin events → AreSets (world events)

-- ---- what was made

-- the event makes the operation
abbrev pub Makes : World → Event → Operation → Type 0
Makes w e o = get (made w e) o.id ≡ Some o

-- the set holds the operation, perhaps without its text, and the operation has the name
pub record HoldsAs (name : List ℕ) (held : List Operation) (o : Operation) : Type 0 where
  pub is_held : Holds held o
  pub own_name : o.id.name ≡ name

-- A replica holds from then on, perhaps without its text, what it made. Its operations have its
-- name.
abbrev pub HoldsItsOwn : Type 0
HoldsItsOwn =
    (later : List Event) (e : Event) (past : List Event) (o : Operation) → Makes (world past) e o →
    HoldsAs (replica_name e) ((world (later ++ e ∷ past)).held (replica_name e)) o

-- one of the events made the operation
pub record IsMade (events : List Event) (o : Operation) : Type 0 where
  pub later : List Event
  pub event : Event
  pub past : List Event
  pub here : events ≡ later ++ event ∷ past
  pub makes : Makes (world past) event o

-- where an operation may be: at a replica, or in a bundle
pub data Where : Type 0 where
  At : (name : List ℕ) → Where
  Within : (bundle : ℕ) → Where

-- the operation of an id in a bundle, if there is one
abbrev pub in_bundle : Option (List Operation) → Id → Option Operation
in_bundle None id = None
in_bundle (Some bundle) id = get bundle id

-- the operation of an id that is found somewhere
abbrev pub found : World → Where → Id → Option Operation
found w (At name) id = get (w.held name) id
found w (Within k) id = in_bundle (slice_get w.bundles k) id

-- the operation itself, or the operation without its text
abbrev pub IsOrThinned : Operation → Operation → Type 0
IsOrThinned x o = (x ≡ o) ⊎ (x ≡ bare o)

-- What is held or in a bundle was made in one of the events, and at most its text is left out.
abbrev pub FoundWasMade : Type 0
FoundWasMade =
    (events : List Event) (a : Where) (id : Id) (x : Operation) →
    found (world events) a id ≡ Some x →
    (o : Operation) × IsMade events o × IsOrThinned x o

-- No two operations with one id are made.
abbrev pub MadeOnce : Type 0
MadeOnce = (events : List Event) (x y : Operation) → IsMade events x →
    IsMade events y → x.id ≡ y.id → x ≡ y

-- What an event makes rises by ids, so that no two of its operations have one id.
abbrev pub MadeRise : Type 0
MadeRise = (past : List Event) (e : Event) → rises (made (world past) e) ≡ true

-- No id has two operations, at any replicas and in any bundles: what is found of one id agrees.
abbrev pub OneForEachId : Type 0
OneForEachId =
    (events : List Event) (a b : Where) (id : Id) (x y : Operation) →
    found (world events) a id ≡ Some x → found (world events) b id ≡ Some y → agree x y ≡ true

-- ---- what operations name

-- An operation names another only where that one was shown at its maker when it was made.
abbrev pub NamesWhatWasShown : Type 0
NamesWhatWasShown =
    (past : List Event) (e : Event) (o : Operation) (id : Id) →
    Makes (world past) e o → names o id ≡ true →
    is_among (shown_ids ((world past).held (replica_name e)) o.segment) id ≡ true

-- each operation of the chain is held in the segment and names the one before it, and the last is
-- shown
abbrev pub IsChain : List Operation → Segment → Operation → List Operation → Type 0
IsChain held g o [] = is_shown held g o ≡ true
IsChain held g o (p ∷ chain) =
    (get held p.id ≡ Some p) × (in_segment g p ≡ true)
    × (names p o.id ≡ true) × IsChain held g p chain

-- From a held operation a chain of replacements, all held in its segment, leads to a shown one.
abbrev pub ShownInTheEnd : Type 0
ShownInTheEnd =
    (events : List Event) (name : List ℕ) (id : Id) (o : Operation) →
    get ((world events).held name) id ≡ Some o →
    (chain : List Operation) × IsChain ((world events).held name) o.segment o chain
