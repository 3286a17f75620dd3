-- Files that come to read the same, after every schedule of commands (this project's own rule).
use Rattle.std.specs.Prelude.{◌≡◌, ◌<◌, ◌^◌, ℕ, Bool, true, false, List, [], ◌∷◌, ◌++◌, length, Ok, IsTrue}
use Rattle.std.specs.Borrow.{Bor}
use Rattle.std.specs.List.{list_all}
use Rattle.usfm_ref.specs.Books.{same_bytes}
use Rattle.op_core.specs.Names.{is_name}
use Rattle.op_core.specs.Ops.{Operation}
use Rattle.op_core.specs.Lists.{awaited}
use Rattle.replica_state.specs.States.{State}
use Rattle.replica_state.specs.World.Schedules.{Holds}
use Rattle.usfm_cli.specs.Projects.{executed}
use Rattle.usfm_cli.specs.ExecLaws.{output_of, ReadTheSame}
use Rattle.usfm_cli.specs.Schedules.{FileCommand, files, AreDone, IsFileOf}
use Rattle.usfm_cli.specs.declared.command.Command.{Command}
use Rattle.usfm_cli.specs.declared.command.Command.TheVariants.{Import, ImportSince}
use Rattle.usfm_cli.specs.declared.command.Command.TheVariants.{Edit, EditOver, EditWith, Receive}
use Rattle.usfm_cli.specs.declared.command.Command.TheVariants.{Send, Summary, Delta}

-- the second moment is the first, or comes after it
abbrev pub IsBefore : List FileCommand → List FileCommand → Type 0
IsBefore past commands = (more : List FileCommand) × (commands ≡ more ++ past)

-- what a teller's file is asked for: its whole bundle, or its delta for the summary that the
-- hearer's file wrote at a moment
pub data Request : Type 0 where
  Whole : Request
  Lacking : (asked : List FileCommand) (summary : Bor (List ℕ)) → Request

-- the command that gives it
abbrev pub asking : Request → Command
asking Whole = Send
asking (Lacking asked summary) = Delta summary

-- the hearer's file wrote the summary at a moment before
pub record WroteSummary (hearer : List ℕ) (asked : List FileCommand) (summary : List ℕ)
    (sent : List FileCommand) : Type 0 where
  pub before : IsBefore asked sent
  pub named : IsTrue (is_name hearer)
  pub short : length ((files asked).file hearer) < 2 ^ 64
  pub wrote : output_of (executed ((files asked).file hearer) Summary) ≡ Ok summary
  pub fits : length summary < 2 ^ 64

-- what is asked with was written by the hearer
abbrev pub IsAsked : List ℕ → Request → List FileCommand → Type 0
IsAsked hearer Whole sent = Unit {0}
IsAsked hearer (Lacking asked summary) sent = WroteSummary hearer asked summary.now sent

-- one hearing: the hearer, what it asks for, the moment whose file it asks for, the bytes, and the
-- moment before the hearer receives them
pub record Hearing : Type 0 where
  pub hearer : List ℕ
  pub request : Request
  pub sent : List FileCommand
  pub bytes : Bor (List ℕ)
  pub got : List FileCommand

-- The bytes are those that the teller's file gives at that moment, and the hearer receives them
-- later.
pub record Hears (teller : List ℕ) (h : Hearing) : Type 0 where
  pub named : IsTrue (is_name teller)
  pub short : length ((files h.sent).file teller) < 2 ^ 64
  pub asked : IsAsked h.hearer h.request h.sent
  pub gives : output_of (executed ((files h.sent).file teller) (asking h.request)) ≡ Ok h.bytes.now
  pub later : IsBefore h.sent h.got

-- the moment after the hearing
abbrev pub heard : Hearing → List FileCommand
heard h = record { name = h.hearer; command = Receive h.bytes } ∷ h.got

-- hearings, each of which begins at the copy where, and after the command in which, the one before
-- ended
abbrev pub IsRelay : List ℕ → List FileCommand → List Hearing → List ℕ → List FileCommand → Type 0
IsRelay a from [] b to = (a ≡ b) × IsBefore from to
IsRelay a from (h ∷ hearings) b to =
    IsBefore from h.sent × Hears a h × IsRelay h.hearer (heard h) hearings b to

-- Where a relay leads, what a file held is held.
abbrev pub RelaysTell : Type 0
RelaysTell =
    (a b : List ℕ) (from to : List FileCommand) (hearings : List Hearing) (s t : State)
    (o : Operation) →
    AreDone to → IsRelay a from hearings b to →
    IsFileOf (files from) a s → IsFileOf (files to) b t → Holds s.held o → Holds t.held o

-- what is said of an edit or an import; true of each other command
abbrev pub if_edit : Command → Bool → Bool
if_edit (Import file) said = said
if_edit (ImportSince file base) said = said
if_edit (Edit book key text) said = said
if_edit (EditOver book key text ids) said = said
if_edit (EditWith book key of ids) said = said
if_edit command said = true

-- whether the command is no edit or import, or is one at a copy that passes
abbrev pub edits_at : (List ℕ → Bool) → FileCommand → Bool
edits_at is_there c = if_edit c.command (is_there c.name)

-- whether the command is no edit or import
abbrev pub is_exchange : FileCommand → Bool
is_exchange c = edits_at (λ name. false) c

-- from each of two copies that are there a relay leads to the other
abbrev pub AllTell : (List ℕ → Bool) → List FileCommand → List FileCommand → Type 0
AllTell is_there from to =
    (a b : List ℕ) → is_there a ≡ true → is_there b ≡ true → same_bytes a b ≡ false →
    (hearings : List Hearing) × IsRelay a from hearings b to

-- no copy edits or imports but those that are there, none does so later, and later a relay leads
-- from each of them to each other
pub record EndsInRelays (is_there : List ℕ → Bool) (later past : List FileCommand) : Type 0 where
  pub edits_there : list_all (edits_at is_there) past ≡ true
  pub exchanges : list_all is_exchange later ≡ true
  pub tell : AllTell is_there past (later ++ past)

-- the same is written for both files, each book and the conflict report; and none of what they name
-- is awaited
pub record AgreeInBytes (file other : List ℕ) (s : State) : Type 0 where
  pub same : ReadTheSame file other
  pub awaits_none : awaited s.held ≡ []

-- Where after the last edit or import a relay leads from each copy to each other one, the files of
-- any two of them write the same bytes of every book and the same conflict report, and await
-- nothing.
abbrev pub AllAgreeInTheEnd : Type 0
AllAgreeInTheEnd =
    (is_there : List ℕ → Bool) (later past : List FileCommand) (a b : List ℕ) (s t : State) →
    AreDone (later ++ past) → EndsInRelays is_there later past →
    is_there a ≡ true → is_there b ≡ true →
    IsFileOf (files (later ++ past)) a s → IsFileOf (files (later ++ past)) b t →
    AgreeInBytes ((files (later ++ past)).file a) ((files (later ++ past)).file b) s

-- Where after the last edit or import a relay leads from each copy to each other one, the file of
-- each of them holds all that the file of any copy ever held, perhaps without its text.
abbrev pub AllHoldAll : Type 0
AllHoldAll =
    (is_there : List ℕ → Bool) (later past moment : List FileCommand) (name maker : List ℕ)
    (s t : State) (o : Operation) →
    AreDone (later ++ past) → EndsInRelays is_there later past →
    is_there name ≡ true → IsFileOf (files (later ++ past)) name s →
    IsBefore moment (later ++ past) → IsFileOf (files moment) maker t →
    Holds t.held o → Holds s.held o
