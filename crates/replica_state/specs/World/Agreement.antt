-- Replicas that come to hold the same, after every list of events (this project's own rule).
use Rattle.std.specs.Prelude.{◌≡◌, ℕ, Bool, true, false, List, [], ◌++◌, Some}
use Rattle.std.specs.List.{list_all}
use Rattle.usfm_ref.specs.Books.{same_bytes}
use Rattle.usfm_ref.specs.declared.segment.Segment.{Segment}
use Rattle.op_core.specs.Ids.{Id}
use Rattle.op_core.specs.Ops.{Operation, names}
use Rattle.op_core.specs.Sets.{get}
use Rattle.op_core.specs.Shown.{shown, pick}
use Rattle.op_core.specs.Lists.{is_held, awaited}
use Rattle.op_core.specs.Thinned.{skeleton}
use Rattle.op_core.specs.ThinLaws.{AnswersSame}
use Rattle.bundle_codec.specs.Summaries.{summary_of}
use Rattle.replica_state.specs.World.{Event, world, edits_at, is_exchange}
use Rattle.replica_state.specs.World.Schedules.{Holds, IsMade}
use Rattle.replica_state.specs.World.Exchanges.{Hearing, IsRelay}

-- What two sets show and answer alike: they are equal but for texts left out, and each segment
-- shows and picks the same. Among the answers are the exports of all books.
pub record ShowSame (s t : List Operation) : Type 0 where
  pub skeletons : skeleton s ≡ skeleton t
  pub shown : (g : Segment) → shown s g ≡ shown t g
  pub picks : (g : Segment) → pick s g ≡ pick t g
  pub answers : AnswersSame s t
  pub summaries : summary_of s ≡ summary_of t

-- Replicas that hold one set but for texts left out show and answer the same.
abbrev pub SameSkeletonsShowSame : Type 0
SameSkeletonsShowSame =
    (events : List Event) (a b : List ℕ) →
    skeleton ((world events).held a) ≡ skeleton ((world events).held b) →
    ShowSame ((world events).held a) ((world events).held b)

-- the replica holds each operation ever made
abbrev pub HoldsAll : List Event → List ℕ → Type 0
HoldsAll events name = (o : Operation) → IsMade events o → Holds ((world events).held name) o

-- Replicas that hold every operation hold one set but for texts left out.
abbrev pub HoldsAllHoldsSame : Type 0
HoldsAllHoldsSame =
    (events : List Event) (a b : List ℕ) → HoldsAll events a → HoldsAll events b →
    skeleton ((world events).held a) ≡ skeleton ((world events).held b)

-- What a replica that holds every operation holds names nothing that it lacks.
abbrev pub HoldsAllAwaitsNone : Type 0
HoldsAllAwaitsNone =
    (events : List Event) (a : List ℕ) → HoldsAll events a →
    (id : Id) (o : Operation) → get ((world events).held a) id ≡ Some o →
    (named : Id) → names o named ≡ true → is_held ((world events).held a) named ≡ true

-- from each of two replicas that are there a relay leads to the other
abbrev pub AllTell : (List ℕ → Bool) → List Event → List Event → Type 0
AllTell is_there from to =
    (a b : List ℕ) → is_there a ≡ true → is_there b ≡ true → same_bytes a b ≡ false →
    (hearings : List Hearing) × IsRelay a from hearings b to

-- no replica edits or imports but those that are there, none does so later, and later a relay leads
-- from each of them to each other
pub record EndsInRelays (is_there : List ℕ → Bool) (later past : List Event) : Type 0 where
  pub edits_there : list_all (edits_at is_there) past ≡ true
  pub exchanges : list_all is_exchange later ≡ true
  pub tell : AllTell is_there past (later ++ past)

-- Where after the last edit a relay leads from each replica to each other, all hold every
-- operation.
abbrev pub AllHoldAll : Type 0
AllHoldAll =
    (is_there : List ℕ → Bool) (later past : List Event) → EndsInRelays is_there later past →
    (name : List ℕ) → is_there name ≡ true → HoldsAll (later ++ past) name

-- two sets show and answer the same, and await nothing
pub record AgreeInTheEnd (s t : List Operation) : Type 0 where
  pub same : ShowSame s t
  pub awaits_none : awaited s ≡ []

-- Where after the last edit a relay leads from each replica to each other, any two of them show and
-- answer the same, and await nothing.
abbrev pub AllAgreeInTheEnd : Type 0
AllAgreeInTheEnd =
    (is_there : List ℕ → Bool) (later past : List Event) → EndsInRelays is_there later past →
    (a b : List ℕ) → is_there a ≡ true → is_there b ≡ true →
    AgreeInTheEnd ((world (later ++ past)).held a) ((world (later ++ past)).held b)
