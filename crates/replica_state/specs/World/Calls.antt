-- How the calls of replicas are the events of a world (this project's own rule).
use Rattle.std.specs.Prelude.{◌≡◌, ◌≢◌, ◌<◌, ◌^◌, ℕ, true, false, List, [], ◌∷◌, ◌++◌, map}
use Rattle.std.specs.Prelude.{length, Result, Ok, Err, Some, slice_get, MatchResult}
use Rattle.std.specs.List.{AllByRecursion}
use Rattle.usfm_ref.specs.Books.{same_bytes}
use Rattle.usfm_ref.specs.Keys.{key_cmp}
use Rattle.usfm_ref.specs.Rising.{rises_by}
use Rattle.usfm_ref.specs.Segments.{segment}
use Rattle.verse_cut.specs.Pieces.{PieceParts, pieces_of}
use Rattle.verse_cut.specs.Reading.{book_in}
use Rattle.op_core.specs.Ids.{Id}
use Rattle.op_core.specs.Ops.{Operation}
use Rattle.op_core.specs.Thinned.{all_full}
use Rattle.bundle_codec.specs.declared.fault.BundleFault.TheVariants.{Truncated}
use Rattle.bundle_codec.specs.declared.fault.WholeFault.{WholeFault}
use Rattle.bundle_codec.specs.declared.fault.WholeFault.TheVariants.{Bundle}
use Rattle.bundle_codec.specs.Spelling.{bundle}
use Rattle.bundle_codec.specs.Joining.{out_of_memory}
use Rattle.replica_state.specs.declared.fault.ReceiveFault.{ReceiveFault}
use Rattle.replica_state.specs.declared.fault.ReceiveFault.TheVariants.{Clash}
use Rattle.replica_state.specs.States.{State}
use Rattle.replica_state.specs.Steps.{Reply}
use Rattle.replica_state.specs.Changes.{ChangeParts}
use Rattle.replica_state.specs.ChangeLaws.{begins}
use Rattle.replica_state.specs.Steps.{with_ops}
use Rattle.replica_state.specs.Since.{since_changes}
use Rattle.replica_state.specs.World.{World, Event, Receives, EditsOver, IsWithin, world, happens, replica}
use Rattle.replica_state.specs.World.{replica_name}
use Rattle.replica_state.specs.World.Invisible.{reply}

-- the replica is that of its name in the world
abbrev pub IsIn : World → State → Type 0
IsIn w s = replica w s.name ≡ s

-- In each world that has the replica, an event makes of it what the call did.
abbrev pub IsEvent : Event → State → State → Type 0
IsEvent e s t = (w : World) → IsIn w s → IsIn (happens w e) t

-- A replica stays what it is through each event at another one. So calls of several replicas, one
-- after the other, are a list of events in one world.
abbrev pub OthersStay : Type 0
OthersStay =
    (w : World) (e : Event) (s : State) → same_bytes s.name (replica_name e) ≡ false →
    IsIn w s → IsIn (happens w e) s

-- what the call answers is the reply to the event
abbrev pub IsReply : Event → State → Reply → Type 0
IsReply e s r = (w : World) → IsIn w s → reply w e ≡ Some r

-- In each world that has the replica and in which the bundle was made, the event of its receiving
-- makes of the replica what the call did, and its reply is what the call answers.
pub record IsReceiving (bundle : List Operation) (s t : State) (r : Reply) : Type 0 where
  pub after : (w : World) (k : ℕ) → IsIn w s → slice_get w.bundles k ≡ Some bundle →
      IsIn (happens w (Receives s.name k)) t
  pub reply : (w : World) (k : ℕ) → IsIn w s → slice_get w.bundles k ≡ Some bundle →
      reply w (Receives s.name k) ≡ Some r

-- the edits over given ids that some changes of a book are
abbrev pub edits_of : List ℕ → List ℕ → List ChangeParts → List Event
edits_of name book changes = map (λ c. EditsOver name (segment book c.key) c.text c.ids) changes

-- the events of an import since a base, which is named by its place among the bundles that were
-- made: its receiving, and then an edit over given ids for each key that was changed
abbrev pub since_events : State → ℕ → List Operation → List ℕ → List PieceParts → List Event
since_events s k base book pieces =
    Receives s.name k
    ∷ edits_of s.name book (since_changes (with_ops s base).held base book pieces)

-- the world after some events, of which the first stands first
abbrev pub all_happen : World → List Event → World
all_happen w [] = w
all_happen w (e ∷ later) = all_happen (happens w e) later

-- In each world in which the replica stands and the base was made, the events of the import since
-- it make of the replica what the call did.
abbrev pub IsImportingSince : List Operation → List ℕ → State → State → Type 0
IsImportingSince base file s t =
    (w : World) (k : ℕ) (book : List ℕ) → IsIn w s → slice_get w.bundles k ≡ Some base →
    book_in file ≡ Ok book →
    IsIn (all_happen w (since_events s k base book (pieces_of file))) t

-- An import since a base answers how many keys were changed: so many edits come after the receiving
-- of the base.
abbrev pub CountsChanges : List Operation → List ℕ → State → ℕ → Type 0
CountsChanges base file s count =
    (book : List ℕ) → book_in file ≡ Ok book →
    count ≡ length (since_changes (with_ops s base).held base book (pieces_of file))

-- In each world that has the replica, the edits over given ids that the changes of a book are make
-- of it what the call did. Their keys rise, and the first begins the book if it has no operation.
abbrev pub AreChanges : List ℕ → List ChangeParts → State → State → Type 0
AreChanges book changes s t =
    (w : World) → IsIn w s → rises_by key_cmp (λ k. k) (map (λ c. c.key) changes) ≡ true →
    begins s.held book changes ≡ true → IsIn (all_happen w (edits_of s.name book changes)) t

-- In no world in which the replica stands, and the bundle was made, is its receiving refused as a
-- clash.
abbrev pub NeverClashes : List Operation → State → Result ℕ ReceiveFault → Type 0
NeverClashes bundle s answer =
    (events : List Event) (k : ℕ) (id : Id) → IsIn (world events) s →
    slice_get (world events).bundles k ≡ Some bundle → answer ≢ Err (Clash id)

-- The event makes a bundle of these operations, and the bytes are its own.
pub record IsSending (e : Event) (s : State) (ops : List Operation) (bytes : List ℕ) : Type 0 where
  pub makes : (w : World) → IsIn w s → (happens w e).bundles ≡ ops ∷ w.bundles
  pub spelled : bytes ≡ bundle ops

-- Of the bytes of a bundle that was made in a world that bundle is read. Memory can be refused only
-- where one of its operations is thinned.
abbrev pub ReadsWhole : List ℕ → Result (List Operation) WholeFault → Type 0
ReadsWhole bytes read =
    (events : List Event) (k : ℕ) (ops : List Operation) → AllByRecursion IsWithin events →
    slice_get (world events).bundles k ≡ Some ops → bytes ≡ bundle ops →
    MatchResult read (λ x. x ≡ ops) (λ fault. (fault ≡ out_of_memory) × (all_full ops ≡ false))

-- A proper front of the bytes of a bundle that was made in a world is refused as cut.
abbrev pub RefusesCut : List ℕ → Result (List Operation) WholeFault → Type 0
RefusesCut bytes read =
    (events : List Event) (k : ℕ) (ops : List Operation) (more : List ℕ) →
    AllByRecursion IsWithin events →
    slice_get (world events).bundles k ≡ Some ops → length (bundle ops) < 2 ^ 64 →
    bundle ops ≡ bytes ++ more → more ≢ [] → read ≡ Err (Bundle Truncated)
