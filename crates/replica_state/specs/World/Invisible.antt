-- Thinning is invisible (this project's own rule): replicas that thin show, export and answer what
-- they do in the twin, where none thins and each bundle has the operations of the same ids. A delta
-- made after a thinning may have more ids than one made without it.
use Rattle.std.specs.Prelude.{◌≡◌, ℕ, true, List, [], ◌∷◌, Option, Some, None, slice_get, IsTrue}
use Rattle.std.specs.List.{list_all}
use Rattle.op_core.specs.Ops.{Operation}
use Rattle.op_core.specs.Sets.{get, clash}
use Rattle.op_core.specs.Thinned.{all_full, skeleton, StandsFor}
use Rattle.replica_state.specs.States.{State}
use Rattle.replica_state.specs.Steps.{Command, Receive, Edit, EditOver, Import, Thin, Reply, step}
use Rattle.replica_state.specs.World.{World, Event, Edits, EditsOver, Imports, Thins}
use Rattle.replica_state.specs.World.{Summarizes, Bundles, Receives, ReceivesCut}
use Rattle.replica_state.specs.World.{FindsNoMemory, world, made, replica}
use Rattle.replica_state.specs.World.Twin.{keeps_texts, twin}
use Rattle.replica_state.specs.World.Schedules.{Holds, IsMade}
use Rattle.replica_state.specs.World.Agreement.{ShowSame}

-- ---- one replica beside another, whose set it stands for

-- after a step of each the first one's set stands for the second one's again, and the replies are
-- the same
pub record StepsAlike (s u : State) (c d : Command) : Type 0 where
  pub after : StandsFor (step s c).after.held (step u d).after.held
  pub reply : (step s c).reply ≡ (step u d).reply

-- the commands are the same edit, edit over or import, or the receiving of sets that do not clash
-- with what is held in full, and of which the first stands for the second
abbrev pub AreAlike : List Operation → Command → Command → Type 0
AreAlike whole (Edit g text) d = Edit g text ≡ d
AreAlike whole (EditOver g text given) d = EditOver g text given ≡ d
AreAlike whole (Import file) d = Import file ≡ d
AreAlike whole (Receive bundle) (Receive full) = StandsFor bundle full × (clash whole full ≡ None)
AreAlike whole c d = ⊥

-- the steps of two replicas are alike; the set of the first one stands for that of the second one
-- also when it has thinned; and both show and answer the same
pub record ActsFor (s u : State) : Type 0 where
  pub steps : (c d : Command) → AreAlike u.held c d → StepsAlike s u c d
  pub thins : StandsFor (step s Thin).after.held u.held
  pub shows : ShowSame s.held u.held

-- Of two replicas with one name, where the set of the first stands for that of the second, the same
-- edit, edit over and import has the same reply, and the first set stands for the second again. So
-- it is with two bundles of which the first stands for the second, if the second does not clash
-- with what the second replica holds. So it is where the first one thins.
abbrev pub StandInsStepAlike : Type 0
StandInsStepAlike = (s u : State) → s.name ≡ u.name → StandsFor s.held u.held → ActsFor s u

-- ---- a world beside its twin

-- bundles that stand for bundles, one by one
abbrev pub EachStands : List (List Operation) → List (List Operation) → Type 0
EachStands [] [] = Unit {0}
EachStands [] (u ∷ us) = ⊥
EachStands (s ∷ ss) [] = ⊥
EachStands (s ∷ ss) (u ∷ us) = StandsFor s u × EachStands ss us

-- what each replica holds, and each bundle, stands for the twin's; the summaries are the twin's
pub record IsInvisible (w v : World) : Type 0 where
  pub held : (name : List ℕ) → StandsFor (w.held name) (v.held name)
  pub bundles : EachStands w.bundles v.bundles
  pub summaries : w.summaries ≡ v.summaries

-- At every moment each replica's set stands for its twin's, and so does each bundle.
abbrev pub ThinningIsInvisible : Type 0
ThinningIsInvisible = (events : List Event) → IsInvisible (world events) (world (twin events))

-- No replica thins in the twin.
abbrev pub TwinKeepsTexts : Type 0
TwinKeepsTexts = (events : List Event) → list_all keeps_texts (twin events) ≡ true

-- At every moment each replica shows and answers what it does in the twin.
abbrev pub ThinningShowsNothing : Type 0
ThinningShowsNothing =
    (events : List Event) (name : List ℕ) →
    ShowSame ((world events).held name) ((world (twin events)).held name)

-- An edit, edit over or import makes the same operations in the twin.
abbrev pub EditsAreTheSame : Type 0
EditsAreTheSame = (past : List Event) (e : Event) → made (world past) e ≡ made (world (twin past)) e

-- the reply to the receiving of a bundle, if there is one
abbrev pub receive_reply : State → Option (List Operation) → Option Reply
receive_reply s None = None
receive_reply s (Some bundle) = Some (step s (Receive bundle)).reply

-- the reply to an edit, an edit over, an import or a receiving; the other events are in no need of
-- one, or the twin has them not
abbrev pub reply : World → Event → Option Reply
reply w (Edits name g text) = Some (step (replica w name) (Edit g text)).reply
reply w (EditsOver name g text given) = Some (step (replica w name) (EditOver g text given)).reply
reply w (Imports name file) = Some (step (replica w name) (Import file)).reply
reply w (Receives name k) = receive_reply (replica w name) (slice_get w.bundles k)
reply w (Thins name) = None
reply w (Summarizes name) = None
reply w (Bundles name kept) = None
reply w (ReceivesCut name k length) = None
reply w (FindsNoMemory name) = None

-- An edit, edit over, import or receiving has the same reply in the twin.
abbrev pub RepliesAreTheSame : Type 0
RepliesAreTheSame =
    (past : List Event) (e : Event) → reply (world past) e ≡ reply (world (twin past)) e

-- ---- worlds in which no replica thins

-- the world is its twin, all is held in full, also what was made, and sets with equal skeletons are
-- equal
pub record IsExact (events : List Event) : Type 0 where
  pub twin_is : world (twin events) ≡ world events
  pub full : (name : List ℕ) → IsTrue (all_full ((world events).held name))
  pub holds : (name : List ℕ) (o : Operation) → IsMade events o →
      Holds ((world events).held name) o →
      get ((world events).held name) o.id ≡ Some o
  pub same : (a b : List ℕ) → skeleton ((world events).held a) ≡ skeleton ((world events).held b) →
      (world events).held a ≡ (world events).held b

-- Where no replica thins, the world is its twin, all is held in full, and replicas whose skeletons
-- are equal hold equal sets.
abbrev pub WithoutThinnings : Type 0
WithoutThinnings = (events : List Event) → list_all keeps_texts events ≡ true → IsExact events
