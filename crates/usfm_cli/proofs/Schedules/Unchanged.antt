-- Commands that leave files as they were.
use Rattle.std.proofs.Common.{◌≡◌, ℕ, Bool, true, false, cond, List, ◌∷◌, Result, Ok, Err, refl, sym, ap, ◌∙◌}
use Rattle.usfm_ref.specs.Books.{same_bytes}
use Rattle.usfm_ref.specs.Segments.{segment}
use Rattle.usfm_ref.proofs.Orders.{same_bytes-is}
use Rattle.bundle_codec.specs.Spelling.{bundle}
use Rattle.bundle_codec.specs.Summaries.{summary, summary_of}
use Rattle.bundle_codec.specs.SummaryReading.{read_summary}
use Rattle.replica_state.specs.States.{State}
use Rattle.replica_state.specs.World.{world, replica}
use Rattle.project_file.specs.Projects.{project}
use Rattle.conflict_report.specs.Reports.{report}
use Rattle.usfm_cli.specs.Commands.{done_if, shown_text, export_text, delta_for, only_tells, outcome}
use Rattle.usfm_cli.specs.SheetReports.{checked, searched, listed}
use Rattle.usfm_cli.specs.Projects.{Written, written, executed}
use Rattle.usfm_cli.specs.Schedules.{Files, FileCommand, files, with_written, AreDone}
use Rattle.usfm_cli.specs.declared.command.Command.{Command}
use Rattle.usfm_cli.specs.declared.command.Command.TheVariants as command
use Rattle.command_faults.specs.declared.fault.Fault.{Fault}
use Rattle.usfm_cli.proofs.Schedules.Events.{events}
use Rattle.usfm_cli.proofs.Schedules.Every.{mirrored}
use Rattle.usfm_cli.proofs.Schedules.Mirrors.{does}

pub refused_leaves_all : (past : List FileCommand) (c : FileCommand) (fault : Fault)
    → executed ((files past).file c.name) c.command ≡ Err fault → files (c ∷ past) ≡ files past
refused_leaves_all past c fault e = ap (with_written (files past) c) e

-- a command at one copy
others : (w : Files) (c : FileCommand) (name : List ℕ) (r : Result Written Fault) → same_bytes name c.name ≡ false
    → (with_written w c r).file name ≡ w.file name
others w c name (Err fault) e = refl
others w c name (Ok made) e = ap (λ (b : Bool). cond b made.project (w.file name)) e

pub others_stay : (past : List FileCommand) (c : FileCommand) (name : List ℕ) → same_bytes name c.name ≡ false
    → (files (c ∷ past)).file name ≡ (files past).file name
others_stay past c name e = others (files past) c name (executed ((files past).file c.name) c.command) e

-- what a command that only reports does to a replica
record OnlyTells (s : State) (c : Command) : Type 0 where
  told : Result (List ℕ) Fault
  is : outcome s c ≡ done_if s told

tells : (s : State) (c : Command) → only_tells c ≡ true → OnlyTells s c
tells s (command.Import file) e = cc e
tells s (command.ImportSince file base) e = cc e
tells s (command.Edit book key text) e = cc e
tells s (command.EditOver book key text ids) e = cc e
tells s (command.EditWith book key of ids) e = cc e
tells s (command.Receive bytes) e = cc e
tells s command.Thin e = cc e
tells s (command.Shown book key) e = record { told = Ok (shown_text s.held (segment book key)); is = refl }
tells s command.Send e = record { told = Ok (bundle s.held); is = refl }
tells s (command.Export book) e = record { told = export_text s.held book; is = refl }
tells s command.Summary e = record { told = Ok (summary (summary_of s.held)); is = refl }
tells s (command.Delta bytes) e = record { told = delta_for s.held (read_summary bytes.now); is = refl }
tells s command.Report e = record { told = Ok (report s.held); is = refl }
tells s (command.Check book sheet) e = record { told = checked s.held book sheet.now; is = refl }
tells s (command.Find book sheet needle) e = record { told = searched s.held book sheet.now needle.now; is = refl }
tells s (command.Words book sheet) e = record { told = listed s.held book sheet.now; is = refl }

-- the file that is written anew is the one that was there
same_file : (w : Files) (c : FileCommand) (s : State) (name : List ℕ) (r : Result (List ℕ) Fault) → w.file c.name ≡ project s
    → (with_written w c (written (done_if s r))).file name ≡ w.file name
same_file w c s name (Err fault) e = refl
same_file w c s name (Ok output) e = by (same_bytes name c.name) refl
  where
    by : (b : Bool) → same_bytes name c.name ≡ b → cond b (project s) (w.file name) ≡ w.file name
    by true f = sym e ∙ ap w.file (sym (same_bytes-is name c.name f))
    by false f = refl

pub reports_leave_files : (past : List FileCommand) (c : FileCommand) (name : List ℕ) → AreDone (c ∷ past)
    → only_tells c.command ≡ true → (files (c ∷ past)).file name ≡ (files past).file name
reports_leave_files past c name d e =
    let r = mirrored past d.1 in
    let s = replica (world (events past)) c.name in
    let x = tells s c.command e in
    let is : executed ((files past).file c.name) c.command ≡ written (done_if s x.told) =
    does (files past) (events past) r.within r.mirrors c.name d.0.named d.0.short c.command ∙ ap written x.is in
    ap (λ (m : Result Written Fault). (with_written (files past) c m).file name) is
    ∙ same_file (files past) c s name x.told (r.mirrors.file c.name)
