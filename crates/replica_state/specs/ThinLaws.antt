-- Laws of replicas that hold thinned operations (this project's own rule): a thinned operation
-- counts as the one that it was, so that sets are the same here where they are equal but for texts
-- left out.
use Rattle.std.specs.Prelude.{◌≡◌, ℕ, Bool, List, [], length, Ok}
use Rattle.std.specs.List.{list_any, AllByRecursion}
use Rattle.usfm_ref.specs.declared.segment.Segment.{Segment}
use Rattle.op_core.specs.Ids.{Id}
use Rattle.op_core.specs.Ops.{Operation}
use Rattle.op_core.specs.Shown.{shown, pick}
use Rattle.op_core.specs.Lists.{is_held}
use Rattle.op_core.specs.Export.{export}
use Rattle.op_core.specs.Thinned.{skeleton, IsOf}
use Rattle.op_core.specs.ThinLaws.{SameButTexts}
use Rattle.bundle_codec.specs.Summaries.{NameRanges, IsSummaryOf, outside}
use Rattle.replica_state.specs.States.{State, IsState, begun}
use Rattle.replica_state.specs.Receives.{lacked}
use Rattle.replica_state.specs.Steps.{Command, Receive, Edit, EditOver, Import}
use Rattle.replica_state.specs.Steps.{Thin, Received, Thinned, step, with_ops}
use Rattle.replica_state.specs.Runs.{after_all, NoneRefused}

-- Two replicas hold the same but for texts left out: they show and pick the same texts, and export
-- the same bytes of every book; and ids, awaited ids, keys, books and summaries are the same.
pub record SameButThinned (s t : State) : Type 0 where
  pub skeletons : skeleton s.held ≡ skeleton t.held
  pub shows : (g : Segment) → shown s.held g ≡ shown t.held g
  pub picks : (g : Segment) → pick s.held g ≡ pick t.held g
  pub exports : (book : List ℕ) → export s.held book ≡ export t.held book
  pub answers : SameButTexts s.held t.held
  pub summaries : (k : List NameRanges) → IsSummaryOf s.held k → IsSummaryOf t.held k

-- A thinning leaves a replica that holds the same but for texts left out. A second one leaves out
-- nothing more.
pub record ThinsUnseen (s : State) : Type 0 where
  pub state : IsState (step s Thin).after
  pub same : SameButThinned s (step s Thin).after
  pub again : step (step s Thin).after Thin
      ≡ record { after = (step s Thin).after; reply = Thinned 0 }

-- the law: whatever replica is thinned, all that is asked of it stays, but an operation's own text
-- where it is replaced
abbrev pub ThinningIsUnseen : Type 0
ThinningIsUnseen = (s : State) → IsState s → ThinsUnseen s

-- ---- bundles of one family, in which no id has two operations

-- the command is a receiving of a bundle of the family, or a thinning
abbrev pub TakesFrom : (Id → Operation) → Command → Type 0
TakesFrom family (Receive bundle) = IsOf family bundle
TakesFrom family (Edit g text) = ⊥
TakesFrom family (EditOver g text given) = ⊥
TakesFrom family (Import file) = ⊥
TakesFrom family Thin = Unit {0}

-- the operations that a command brings
abbrev pub brought : Command → List Operation
brought (Receive bundle) = bundle
brought (Edit g text) = []
brought (EditOver g text given) = []
brought (Import file) = []
brought Thin = []

-- whether one of the commands brings an operation of the id
abbrev pub is_brought : List Command → Id → Bool
is_brought commands id = list_any (λ c. is_held (brought c) id) commands

-- what two runs leave: none of their commands is refused, and the replicas hold the same but for
-- texts left out
pub record RunAlike (s t : State) (commands others : List Command) : Type 0 where
  pub taken : NoneRefused s commands
  pub others_taken : NoneRefused t others
  pub same : SameButThinned (after_all s commands) (after_all t others)

-- Two replicas that received bundles of one family, with the same ids together, in whatever order,
-- grouping and repetition, and thinned at whatever moments, hold the same but for texts left out.
-- No bundle is refused.
abbrev pub ThinnedBundlesSameBooks : Type 0
ThinnedBundlesSameBooks =
    (family : Id → Operation) (name other : List ℕ) (commands others : List Command) →
    AllByRecursion (TakesFrom family) commands → AllByRecursion (TakesFrom family) others →
    ((id : Id) → is_brought commands id ≡ is_brought others id) →
    RunAlike (begun name) (begun other) commands others

-- Of two replicas with sets of one family, one that receives the other one's delta for its own
-- summary holds the union of both sets but for texts left out, and never refuses it. It counts as
-- new what it lacked.
pub record GivesUnion (own other : State) (delta : List Operation) : Type 0 where
  pub reply : (step own (Receive delta)).reply ≡ Received (Ok (length (lacked own.held other.held)))
  pub same : SameButThinned (step own (Receive delta)).after (with_ops own other.held)

-- the law: so it is of any two replicas of one family, and any summary of what the first holds
abbrev pub ThinnedDeltasGiveUnion : Type 0
ThinnedDeltasGiveUnion =
    (family : Id → Operation) (own other : State) (s : List NameRanges) →
    IsOf family own.held → IsOf family other.held → IsSummaryOf own.held s →
    GivesUnion own other (outside s other.held)
