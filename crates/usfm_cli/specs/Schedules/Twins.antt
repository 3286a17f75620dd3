-- Thinning is invisible (this project's own rule): what copies write that leave out texts by
-- thinning is what they write in a twin of their schedule, in which none thins.
use Rattle.std.specs.Prelude.{◌≡◌, ◌≢◌, ◌⊎◌, ℕ, List, [], ◌∷◌, Some, Result, Ok, slice_get}
use Rattle.std.specs.Borrow.{Bor}
use Rattle.usfm_ref.specs.Keys.{KeyParts}
use Rattle.replica_state.specs.States.{State}
use Rattle.usfm_cli.specs.Projects.{Written, executed}
use Rattle.usfm_cli.specs.ExecLaws.{output_of, ReadTheSame}
use Rattle.usfm_cli.specs.Schedules.{Files, FileCommand, files, IsFrontOf, AreDone, IsFileOf}
use Rattle.usfm_cli.specs.declared.command.Command.{Command}
use Rattle.usfm_cli.specs.declared.command.Command.TheVariants.{ImportSince, Receive, Thin}
use Rattle.usfm_cli.specs.declared.command.Command.TheVariants.{Shown, Send, Summary}
use Rattle.command_faults.specs.declared.fault.Fault.{Fault}

-- the whole bundles of copies, with that which a command wrote if it was asked for one
abbrev pub sent_with : Command → Result Written Fault → List (List ℕ) → List (List ℕ)
sent_with Send (Ok made) bundles = made.output ∷ bundles
sent_with command r bundles = bundles

-- the whole bundles of copies that were written after some commands, the last one first
abbrev pub sent : List FileCommand → List (List ℕ)
sent [] = []
sent (c ∷ past) =
    sent_with c.command (executed ((files past).file c.name) c.command) (sent past)

-- two schedules wrote a whole bundle of a copy each, at the same place among these
pub record AtOnePlace (past twins : List FileCommand) (bytes twin : List ℕ) : Type 0 where
  pub place : ℕ
  pub here : slice_get (sent past) place ≡ Some bytes
  pub there : slice_get (sent twins) place ≡ Some twin

-- Two commands are the same, and no thinnings; but what is received, and what is the base of an
-- import, is the whole bundle of a copy that stands at the same place in both schedules: there one
-- may have left out texts that the other has.
abbrev pub IsSame : List FileCommand → List FileCommand → Command → Command → Type 0
IsSame past twins (ImportSince file base) d =
    (twin : Bor (List ℕ)) × (d ≡ ImportSince file twin) × AtOnePlace past twins base.now twin.now
IsSame past twins (Receive bytes) d =
    (twin : Bor (List ℕ)) × (d ≡ Receive twin) × AtOnePlace past twins bytes.now twin.now
IsSame past twins Thin d = ⊥
IsSame past twins command d = d ≡ command

-- what a twin leaves out: a thinning, and the receiving of a cut bundle
abbrev pub IsLeftOut : Files → Command → Type 0
IsLeftOut w Thin = Unit {0}
IsLeftOut w (Receive bytes) = (front : IsFrontOf w.bundles bytes.now) × (front.more ≢ [])
IsLeftOut w command = ⊥

-- The second schedule is a twin of the first: the same commands at the same copies, without the
-- thinnings.
abbrev pub IsTwin : List FileCommand → List FileCommand → Type 0
IsTwin [] [] = Unit {0}
IsTwin [] (d ∷ twins) = ⊥
IsTwin (c ∷ past) [] = IsLeftOut (files past) c.command × IsTwin past []
IsTwin (c ∷ past) (d ∷ twins) =
    (IsLeftOut (files past) c.command × IsTwin past (d ∷ twins))
    ⊎ ((c.name ≡ d.name) × IsSame past twins c.command d.command × IsTwin past twins)

-- the same is written for both files: each book, the conflict report, what each segment shows, and
-- the summary
pub record WriteTheSame (file twin : List ℕ) : Type 0 where
  pub read : ReadTheSame file twin
  pub shown : (book : List ℕ) (key : KeyParts) →
      output_of (executed file (Shown book key)) ≡ output_of (executed twin (Shown book key))
  pub summary : output_of (executed file Summary) ≡ output_of (executed twin Summary)

-- The file of each copy writes what it writes in each twin of the schedule.
abbrev pub ThinningIsInvisible : Type 0
ThinningIsInvisible =
    (past twins : List FileCommand) (name : List ℕ) (s t : State) →
    AreDone past → AreDone twins → IsTwin past twins →
    IsFileOf (files past) name s → IsFileOf (files twins) name t →
    WriteTheSame ((files past).file name) ((files twins).file name)
