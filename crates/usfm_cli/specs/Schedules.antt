-- Every schedule of commands on the files of a team (this project's own rule, over the worlds of
-- replicas): commands one after another, each on the file of a copy, where what is received is what
-- one of the files wrote before.
pub mod Relays
pub mod Making
pub mod Twins
use Rattle.std.specs.Prelude.{◌≡◌, ◌≢◌, ◌<◌, ◌^◌, ℕ, true, false, List, [], ◌∷◌, ◌++◌, length, codes, Some, Result, Ok, Err, IsTrue}
use Rattle.std.specs.Prelude.{slice_get, if◌then◌else◌}
use Rattle.std.specs.Borrow.{Bor}
use Rattle.std.specs.Fmt.{decimal}
use Rattle.usfm_ref.specs.Books.{same_bytes}
use Rattle.usfm_ref.specs.Segments.{segment}
use Rattle.op_core.specs.Names.{is_name}
use Rattle.op_core.specs.Ids.{Id}
use Rattle.op_core.specs.Ops.{Operation, agree, is_segment}
use Rattle.op_core.specs.Sets.{get, join}
use Rattle.op_core.specs.Thinned.{skeleton}
use Rattle.bundle_codec.specs.declared.fault.BundleFault.TheVariants.{Truncated}
use Rattle.replica_state.specs.States.{State, begun}
use Rattle.replica_state.specs.Receives.{lacked}
use Rattle.replica_state.specs.World.Schedules.{Holds, IsChain}
use Rattle.project_file.specs.Projects.{project, project_at}
use Rattle.usfm_cli.specs.Commands.{line_of, only_tells}
use Rattle.usfm_cli.specs.Projects.{Written, executed}
use Rattle.usfm_cli.specs.ExecLaws.{output_of}
use Rattle.usfm_cli.specs.declared.command.Command.{Command}
use Rattle.usfm_cli.specs.declared.command.Command.TheVariants.{ImportSince, Edit, EditOver, EditWith}
use Rattle.usfm_cli.specs.declared.command.Command.TheVariants.{Receive, Send, Summary, Delta}
use Rattle.command_faults.specs.declared.fault.Fault.{Fault}
use Rattle.command_faults.specs.declared.fault.Fault.TheVariants.{Bundle}

-- What the file of each copy has, by the copies' names, so that no two have one name; and every
-- bundle and every summary that was written so far, the last one first.
pub record Files : Type 0 where
  pub file : List ℕ → List ℕ
  pub bundles : List (List ℕ)
  pub summaries : List (List ℕ)

-- each copy has begun, and nothing was written
abbrev pub beginning : Files
beginning = record { file = λ name. project (begun name); bundles = []; summaries = [] }

-- a command on the file of the copy with a name
pub record FileCommand : Type 0 where
  pub name : List ℕ
  pub command : Command

-- the bundles, with what a command wrote if that is one
abbrev pub bundles_with : Command → List ℕ → List (List ℕ) → List (List ℕ)
bundles_with Send output bundles = output ∷ bundles
bundles_with (Delta summary) output bundles = output ∷ bundles
bundles_with command output bundles = bundles

-- the summaries, with what a command wrote if that is one
abbrev pub summaries_with : Command → List ℕ → List (List ℕ) → List (List ℕ)
summaries_with Summary output summaries = output ∷ summaries
summaries_with command output summaries = summaries

-- the files after a command on one of them, which a refused command leaves as they are
abbrev pub with_written : Files → FileCommand → Result Written Fault → Files
with_written w c (Ok made) = record {
  file = λ other. if same_bytes other c.name then made.project else w.file other;
  bundles = bundles_with c.command made.output w.bundles;
  summaries = summaries_with c.command made.output w.summaries;
}
with_written w c (Err fault) = w

-- the files after some commands, of which the last comes first
abbrev pub files : List FileCommand → Files
files [] = beginning
files (c ∷ past) =
    with_written (files past) c (executed ((files past).file c.name) c.command)

-- ---- what commands are given

-- the bytes are one of those that were written, as many as a slice can have
pub record IsWritten (outputs : List (List ℕ)) (bytes : List ℕ) : Type 0 where
  pub place : ℕ
  pub is : slice_get outputs place ≡ Some bytes
  pub short : length bytes < 2 ^ 64

-- the bytes are a front of one of those that were written, perhaps all of it
pub record IsFrontOf (outputs : List (List ℕ)) (bytes : List ℕ) : Type 0 where
  pub whole : List ℕ
  pub written : IsWritten outputs whole
  pub more : List ℕ
  pub parts : whole ≡ bytes ++ more

-- What a command is given that is not a text or a book's file, which may be any bytes: a segment
-- within its ranges; to receive, a front of a bundle that was written, whole or cut, whoever wrote
-- it, and however often it was received; a summary that was written; and as the base of an import a
-- bundle that was written.
abbrev pub IsGiven : Files → Command → Type 0
IsGiven w (ImportSince file base) = IsWritten w.bundles base.now
IsGiven w (Edit book key text) = IsTrue (is_segment (segment book key))
IsGiven w (EditOver book key text ids) = IsTrue (is_segment (segment book key))
IsGiven w (EditWith book key of ids) = IsTrue (is_segment (segment book key))
IsGiven w (Receive bytes) = IsFrontOf w.bundles bytes.now
IsGiven w (Delta summary) = IsWritten w.summaries summary.now
IsGiven w command = Unit {0}

-- a right name, a file that a slice can have, and what the command is given
pub record IsDone (w : Files) (c : FileCommand) : Type 0 where
  pub named : IsTrue (is_name c.name)
  pub short : length (w.file c.name) < 2 ^ 64
  pub given : IsGiven w c.command

-- so it is with each of some commands, on the files that those before it made
abbrev pub AreDone : List FileCommand → Type 0
AreDone [] = Unit {0}
AreDone (c ∷ past) = IsDone (files past) c × AreDone past

-- a right name, under which there is the file of a replica, of as many bytes as a slice can have
pub record IsFileOf (w : Files) (name : List ℕ) (s : State) : Type 0 where
  pub named : IsTrue (is_name name)
  pub short : length (w.file name) < 2 ^ 64
  pub reads : project_at (w.file name) ≡ Ok s

-- ---- after every schedule

-- Each file is that of a replica with the copy's name.
abbrev pub FilesAreProjects : Type 0
FilesAreProjects =
    (past : List FileCommand) (name : List ℕ) → AreDone past → IsTrue (is_name name) →
    length ((files past).file name) < 2 ^ 64 →
    (s : State) × (project_at ((files past).file name) ≡ Ok s) × (s.name ≡ name)

-- No whole bundle that was written is refused when it is received, at whatever copy.
abbrev pub NoReceiveIsRefused : Type 0
NoReceiveIsRefused =
    (past : List FileCommand) (name : List ℕ) (s : State) (bytes : Bor (List ℕ)) →
    AreDone past → IsFileOf (files past) name s → IsWritten (files past).bundles bytes.now →
    (made : Written) × (executed ((files past).file name) (Receive bytes) ≡ Ok made)

-- A proper front of a bundle that was written is refused as truncated.
abbrev pub FrontsAreRefused : Type 0
FrontsAreRefused =
    (past : List FileCommand) (name : List ℕ) (s : State) (bytes : Bor (List ℕ)) →
    AreDone past → IsFileOf (files past) name s →
    (front : IsFrontOf (files past).bundles bytes.now) → front.more ≢ [] →
    executed ((files past).file name) (Receive bytes) ≡ Err (Bundle Truncated)

-- What a file holds, it holds from then on, perhaps without its text: so also what its copy made.
abbrev pub FilesKeep : Type 0
FilesKeep =
    (later past : List FileCommand) (name : List ℕ) (s t : State) (o : Operation) →
    AreDone (later ++ past) →
    IsFileOf (files past) name s → IsFileOf (files (later ++ past)) name t →
    Holds s.held o → Holds t.held o

-- No id has two operations: what two files hold under one id agrees.
abbrev pub OneForEachId : Type 0
OneForEachId =
    (past : List FileCommand) (a b : List ℕ) (s t : State) (id : Id) (x y : Operation) →
    AreDone past → IsFileOf (files past) a s → IsFileOf (files past) b t →
    get s.held id ≡ Some x → get t.held id ≡ Some y → agree x y ≡ true

-- From an operation that a file holds a chain of replacements, all held in its segment, leads to a
-- shown one.
abbrev pub ShownInTheEnd : Type 0
ShownInTheEnd =
    (past : List FileCommand) (name : List ℕ) (s : State) (id : Id) (o : Operation) →
    AreDone past → IsFileOf (files past) name s → get s.held id ≡ Some o →
    (chain : List Operation) × IsChain s.held o.segment o chain

-- a receive was not refused: the file is then that of a replica of the same name that holds the
-- union of two sets, but for texts left out, and what was written is how many operations it had
-- lacked
pub record BringsUnion (s t : State) (r : Result Written Fault) : Type 0 where
  pub after : State
  pub answer : r ≡ Ok (record {
    project = project after;
    output = line_of (codes "new") (decimal (length (lacked s.held t.held)));
  })
  pub named : after.name ≡ s.name
  pub skeletons : skeleton after.held ≡ skeleton (join s.held t.held)

-- A copy that receives what another one writes for its summary is not refused, and holds the union
-- of both but for texts left out, whatever texts either has left out before.
abbrev pub DeltasBringUnion : Type 0
DeltasBringUnion =
    (past : List FileCommand) (a b : List ℕ) (s t : State) (asked sent : Bor (List ℕ)) →
    let own = (files past).file a in let other = (files past).file b in
    AreDone past → IsFileOf (files past) a s → IsFileOf (files past) b t →
    output_of (executed own Summary) ≡ Ok asked.now → length asked.now < 2 ^ 64 →
    output_of (executed other (Delta asked)) ≡ Ok sent.now → length sent.now < 2 ^ 64 →
    BringsUnion s t (executed own (Receive sent))

-- ---- what changes nothing

-- A refused command leaves every file, and all that was written, as it was.
abbrev pub RefusedLeavesAll : Type 0
RefusedLeavesAll =
    (past : List FileCommand) (c : FileCommand) (fault : Fault) →
    executed ((files past).file c.name) c.command ≡ Err fault → files (c ∷ past) ≡ files past

-- A command that only reports leaves every file as it was, byte by byte, refused or not.
abbrev pub ReportsLeaveFiles : Type 0
ReportsLeaveFiles =
    (past : List FileCommand) (c : FileCommand) (name : List ℕ) →
    AreDone (c ∷ past) → only_tells c.command ≡ true →
    (files (c ∷ past)).file name ≡ (files past).file name

-- A command at one copy leaves the file of each other copy as it was.
abbrev pub OthersStay : Type 0
OthersStay =
    (past : List FileCommand) (c : FileCommand) (name : List ℕ) →
    same_bytes name c.name ≡ false → (files (c ∷ past)).file name ≡ (files past).file name
