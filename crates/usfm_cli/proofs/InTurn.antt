-- Commands in turn, on their way.
use Rattle.std.proofs.Common.{◌≡◌, ◌≢◌, ℕ, suc, Bool, false, ◌+◌, ◌<◌, List, [], ◌∷◌, ◌++◌, length, take}
use Rattle.std.proofs.Common.{drop, Result, Ok, Err, refl, sym, ap, subst, ◌∙◌, ◌≤◌, get_or, arith, drop-cons, length-append}
use Rattle.std.proofs.lemmas.List.{take-append-drop, take_more, take_all, length-take-le}
use Rattle.replica_state.specs.States.{State}
use Rattle.project_file.specs.Projects.{project, project_at}
use Rattle.project_file.proofs.Files.{project_is}
use Rattle.usfm_cli.specs.Commands.{Done, outcome, is_late}
use Rattle.usfm_cli.specs.Projects.{Written, written, of_loaded, executed, file_or, file_after, state_or, state_after}
use Rattle.usfm_cli.specs.Turns.{InTurn, after_one, done_before, in_turn, with_output, written_in_turn, loaded_in_turn, executed_in_turn}
use Rattle.usfm_cli.specs.Turns.{RefusedFor, RefusedIn, AnswersInTurn, is_memory, is_of_memory}
use Rattle.usfm_cli.specs.Turns.{written_before, one_after_another, InTurnIsOneAfterAnother, AcceptedIsFileAfter}
use Rattle.usfm_cli.specs.declared.command.Command.{Command}
use Rattle.command_faults.specs.declared.fault.Fault.{Fault}
use Rattle.command_faults.specs.declared.fault.Fault.TheVariants.{Memory, NotText, Reference, NoId, FieldBeforeMarker, EmptyMarker, BadStyleType, BadVersification}
use Rattle.command_faults.specs.declared.fault.Fault.TheVariants.{Naming, Clash, Bundle, Trailing, BadSummary, BadSeal, BadSegment, NumbersUsedUp, NoBook}
use Rattle.command_faults.specs.declared.fault.Fault.TheVariants.{NotShown, LeftOut, BadAnswers, WriteFailed, EmptyNeedle, BadProject, ReadFailed, TooLong, FileFailed, FileChanged, Emptied, Undone, Unlike, SettledEarly}
use Rattle.usfm_cli.specs.declared.turns.TurnFault.{TurnFault}
use Rattle.usfm_cli.specs.declared.turns.TurnFault.TheVariants.{Project, Turn}

-- what some commands wrote, before what the ones after them do
abbrev after_all : List (List ℕ) → Result (InTurn State) TurnFault → Result (InTurn State) TurnFault
after_all [] r = r
after_all (output ∷ outputs) r = after_one output (after_all outputs r)

after_all_ok : (outputs : List (List ℕ)) (d : InTurn State)
    → after_all outputs (Ok d) ≡ Ok (record { after = d.after; outputs = outputs ++ d.outputs })
after_all_ok [] d = refl
after_all_ok (output ∷ outputs) d = ap (after_one output) (after_all_ok outputs d)

after_all_refused : (outputs : List (List ℕ)) (at : ℕ) (fault : Fault)
    → after_all outputs (Err (Turn at fault)) ≡ Err (Turn (length outputs + at) fault)
after_all_refused [] at fault =
    let e : at ≡ 0 + at = omega arith in
    ap (λ (n : ℕ). Err (Turn n fault)) e
after_all_refused (output ∷ outputs) at fault =
    let e : suc (length outputs + at) ≡ suc (length outputs) + at = omega arith in
    ap (after_one output) (after_all_refused outputs at fault) ∙ ap (λ (n : ℕ). Err (Turn n fault)) e

-- commands after others that were accepted
joined : (before later : List Command) (s : State) (d : InTurn State) → in_turn s before ≡ Ok d
    → in_turn s (before ++ later) ≡ after_all d.outputs (in_turn d.after later)
joined [] later s d e =
    let is : record { after = s; outputs = [] } ≡ d = cc e in
    subst (λ (x : InTurn State). in_turn s later ≡ after_all x.outputs (in_turn x.after later)) is refl
joined (command ∷ before) later s d e = by (outcome s command) (λ x y f. joined before later x.after y f) e
  where
    deep : (x : Done) → ((y : InTurn State) → in_turn x.after before ≡ Ok y → in_turn x.after (before ++ later)
        ≡ after_all y.outputs (in_turn y.after later)) → (r : Result (InTurn State) TurnFault) → in_turn x.after before ≡ r
        → after_one x.output r ≡ Ok d → after_one x.output (in_turn x.after (before ++ later))
        ≡ after_all d.outputs (in_turn d.after later)
    deep x on (Ok y) f e =
        let is : record { after = y.after; outputs = x.output ∷ y.outputs } ≡ d = cc e in
        subst (λ (z : InTurn State). after_one x.output (in_turn x.after (before ++ later))
        ≡ after_all z.outputs (in_turn z.after later)) is
        (ap (after_one x.output) (on y f))
    deep x on (Err (Turn at fault)) f e = cc e
    deep x on (Err (Project fault)) f e = cc e

    by : (r : Result Done Fault) → ((x : Done) (y : InTurn State) → in_turn x.after before ≡ Ok y → in_turn x.after (before ++ later)
        ≡ after_all y.outputs (in_turn y.after later)) → done_before r (λ next. in_turn next before) ≡ Ok d
        → done_before r (λ next. in_turn next (before ++ later)) ≡ after_all d.outputs (in_turn d.after later)
    by (Ok x) on e = deep x (on x) (in_turn x.after before) refl e
    by (Err fault) on e = cc e

-- one command more is accepted
pub accepted_more : (before : List Command) (command : Command) (s : State) (d e : InTurn State) → in_turn s before ≡ Ok d
    → with_output d.outputs (outcome d.after command) ≡ Ok e → in_turn s (before ++ command ∷ []) ≡ Ok e
accepted_more before command s d e f g = joined before (command ∷ []) s d f ∙ by (outcome d.after command) g
  where
    by : (r : Result Done Fault) → with_output d.outputs r ≡ Ok e
        → after_all d.outputs (done_before r (λ next. in_turn next [])) ≡ Ok e
    by (Ok x) g =
        let is : record { after = x.after; outputs = d.outputs ++ x.output ∷ [] } ≡ e = cc g in
        after_all_ok d.outputs (record { after = x.after; outputs = x.output ∷ [] }) ∙ ap Ok is
    by (Err fault) g = cc g

-- the first that is refused, after those that were accepted
pub refused_after : (before later : List Command) (command : Command) (s : State) (d : InTurn State) (fault : Fault)
    → in_turn s before ≡ Ok d → outcome d.after command ≡ Err fault
    → in_turn s (before ++ command ∷ later) ≡ Err (Turn (length d.outputs) fault)
refused_after before later command s d fault f g =
    let e : length d.outputs + 0 ≡ length d.outputs = omega arith in
    joined before (command ∷ later) s d f
    ∙ ap (λ r. after_all d.outputs (done_before r (λ next. in_turn next later))) g
    ∙ after_all_refused d.outputs 0 fault
    ∙ ap (λ (n : ℕ). Err (Turn n fault)) e

-- there is an output for each command
one_each : (commands : List Command) (s : State) (d : InTurn State) → in_turn s commands ≡ Ok d → length d.outputs ≡ length commands
one_each [] s d e = let is : [] ≡ d.outputs = cc e in sym (ap length is)
one_each (command ∷ later) s d e = by (outcome s command) (λ x y f. one_each later x.after y f) e
  where
    deep : (x : Done) → ((y : InTurn State) → in_turn x.after later ≡ Ok y → length y.outputs ≡ length later)
        → (r : Result (InTurn State) TurnFault) → in_turn x.after later ≡ r → after_one x.output r ≡ Ok d
        → length d.outputs ≡ suc (length later)
    deep x on (Ok y) f e = let is : x.output ∷ y.outputs ≡ d.outputs = cc e in sym (ap length is) ∙ ap suc (on y f)
    deep x on (Err (Turn at fault)) f e = cc e
    deep x on (Err (Project fault)) f e = cc e

    by : (r : Result Done Fault) → ((x : Done) (y : InTurn State) → in_turn x.after later ≡ Ok y → length y.outputs ≡ length later)
        → done_before r (λ next. in_turn next later) ≡ Ok d → length d.outputs ≡ suc (length later)
    by (Ok x) on e = deep x (on x) (in_turn x.after later) refl e
    by (Err fault) on e = cc e

-- a refusal that is not out of memory is the one that there is
pub exact_fault : {T : Type 0} (late : Fault → Bool) (wanted : Result T Fault) (fault : Fault) → is_memory fault ≡ false
    → RefusedFor late wanted fault → wanted ≡ Err fault
exact_fault late wanted Memory e h = cc e
exact_fault late wanted (NotText valid) e h = h
exact_fault late wanted (Reference fault) e h = h
exact_fault late wanted NoId e h = h
exact_fault late wanted (FieldBeforeMarker line) e h = h
exact_fault late wanted (EmptyMarker line) e h = h
exact_fault late wanted (BadStyleType line) e h = h
exact_fault late wanted (BadVersification line) e h = h
exact_fault late wanted (Naming fault) e h = h
exact_fault late wanted (Clash id) e h = h
exact_fault late wanted (Bundle fault) e h = h
exact_fault late wanted Trailing e h = h
exact_fault late wanted BadSummary e h = h
exact_fault late wanted BadSeal e h = h
exact_fault late wanted BadSegment e h = h
exact_fault late wanted NumbersUsedUp e h = h
exact_fault late wanted NoBook e h = h
exact_fault late wanted (NotShown id) e h = h
exact_fault late wanted (LeftOut id) e h = h
exact_fault late wanted (BadAnswers line) e h = h
exact_fault late wanted (WriteFailed gone) e h = h
exact_fault late wanted EmptyNeedle e h = h
exact_fault late wanted BadProject e h = h
exact_fault late wanted ReadFailed e h = h
exact_fault late wanted TooLong e h = h
exact_fault late wanted FileFailed e h = h
exact_fault late wanted FileChanged e h = h
exact_fault late wanted (Emptied count) e h = h
exact_fault late wanted (Undone count) e h = h
exact_fault late wanted (Unlike count) e h = h
exact_fault late wanted SettledEarly e h = h

-- the first that is refused, which is not for memory, is the refusal of the commands in turn
pub refused_is : (s : State) (commands : List Command) (at : ℕ) (fault : Fault) → is_memory fault ≡ false
    → RefusedIn s commands at fault → in_turn s commands ≡ Err (Turn at fault)
refused_is s commands at fault e r =
    ap (in_turn s) r.stand
    ∙ refused_after r.before r.later r.command s r.done fault r.accepted
    (exact_fault (is_late r.command) (outcome r.done.after r.command) fault e r.refused)
    ∙ ap (λ (n : ℕ). Err (Turn n fault)) (one_each r.before s r.done r.accepted ∙ r.place)

-- so for the project's file
pub file_refused : (A B : Type 0) (bytes : List ℕ) (s after : State) (commands : List Command) (fault : TurnFault)
    → project_at bytes ≡ Ok s → AnswersInTurn {A = A} {B = B} s commands after (Err fault) → is_of_memory fault ≡ false
    → executed_in_turn bytes commands ≡ Err fault
file_refused A B bytes s after commands (Turn at fault) loads h e =
    ap (λ r. loaded_in_turn r commands) loads ∙ ap written_in_turn (refused_is s commands at fault e h)
file_refused A B bytes s after commands (Project fault) loads h e = absurd h

-- commands in turn are refused in the turn of one
pub in_its_turn : (A B : Type 0) (s after : State) (commands : List Command) (fault : TurnFault)
    → AnswersInTurn {A = A} {B = B} s commands after (Err fault) → fault ≢ Project Memory
in_its_turn A B s after commands (Turn at fault) h e = cc e
in_its_turn A B s after commands (Project fault) h e = h

-- the replica after commands in turn is the one after their steps
pub after_steps : (commands : List Command) (s : State) (d : InTurn State) → in_turn s commands ≡ Ok d
    → state_after s commands ≡ d.after
after_steps [] s d e = cc e
after_steps (command ∷ later) s d e = by (outcome s command) (λ x y f. after_steps later x.after y f) e
  where
    deep : (x : Done) → ((y : InTurn State) → in_turn x.after later ≡ Ok y → state_after x.after later ≡ y.after)
        → (r : Result (InTurn State) TurnFault) → in_turn x.after later ≡ r → after_one x.output r ≡ Ok d
        → state_after x.after later ≡ d.after
    deep x on (Ok y) f e = on y f ∙ cc e
    deep x on (Err (Turn at fault)) f e = cc e
    deep x on (Err (Project fault)) f e = cc e

    by : (r : Result Done Fault) → ((x : Done) (y : InTurn State) → in_turn x.after later ≡ Ok y → state_after x.after later ≡ y.after)
        → done_before r (λ next. in_turn next later) ≡ Ok d → state_after (state_or s r) later ≡ d.after
    by (Ok x) on e = deep x (on x) (in_turn x.after later) refl e
    by (Err fault) on e = cc e

-- ---- the walk over the commands

-- this many commands are done in turn, which left this replica and wrote this
pub record DoneSoFar (s : State) (commands : List Command) (n : ℕ) (now : State) (outputs : List (List ℕ)) : Type 0 where
  pub so_far : in_turn s (take n commands) ≡ Ok (record { after = now; outputs = outputs })
  pub count : length outputs ≡ n

-- before the first command nothing was done
pub none_done : (s : State) (commands : List Command) → DoneSoFar s commands 0 s []
none_done s commands = record { so_far = refl; count = refl }

more_outputs : (outputs : List (List ℕ)) (r : Result Done Fault) (e : InTurn State) → with_output outputs r ≡ Ok e
    → length e.outputs ≡ length outputs + 1
more_outputs outputs (Ok x) e f =
    let is : outputs ++ x.output ∷ [] ≡ e.outputs = cc f in
    sym (ap length is) ∙ length-append outputs (x.output ∷ [])
more_outputs outputs (Err fault) e f = cc f

module _ (s : State) (commands : List Command) (n : ℕ) (now : State) (outputs : List (List ℕ)) (d : DoneSoFar s commands n now outputs)
    (command : Command) (within : n < length commands) (is : command ≡ get_or commands n command) where
  all_commands : commands ≡ take n commands ++ command ∷ drop (suc n) commands
  all_commands =
      sym (take-append-drop n commands)
      ∙ ap (λ (l : List Command). take n commands ++ l) (drop-cons commands n command within
      ∙ ap (λ (x : Command). x ∷ drop (suc n) commands) (sym is))

  pub one_done : (next : State) (more : List (List ℕ))
      → with_output outputs (outcome now command) ≡ Ok (record { after = next; outputs = more })
      → DoneSoFar s commands (n + 1) next more
  one_done next more e = record {
    so_far =
        ap (in_turn s) (take_more commands n command within ∙ ap (λ (x : Command). take n commands ++ x ∷ []) (sym is))
        ∙ accepted_more (take n commands) command s (record { after = now; outputs = outputs })
        (record { after = next; outputs = more }) d.so_far e;
    count = more_outputs outputs (outcome now command) (record { after = next; outputs = more }) e ∙ ap (λ k. k + 1) d.count;
  }

  pub one_refused : (len : ℕ) (fault : Fault) → len ≡ length outputs → RefusedFor (is_late command) (outcome now command) fault
      → RefusedIn s commands len fault
  one_refused len fault e why = record {
    before = take n commands;
    command = command;
    later = drop (suc n) commands;
    stand = all_commands;
    place = length-take-le n commands (omega arith) ∙ sym d.count ∙ sym e;
    done = record { after = now; outputs = outputs };
    accepted = d.so_far;
    refused = why;
  }

-- after the last one all were done in turn
pub all_done : (s : State) (commands : List Command) (n : ℕ) (now : State) (outputs : List (List ℕ)) → DoneSoFar s commands n now outputs
    → length commands ≤ n → in_turn s commands ≡ Ok (record { after = now; outputs = outputs })
all_done s commands n now outputs d past = ap (in_turn s) (sym (take_all n commands past)) ∙ d.so_far

-- ---- the same, by commands one after another

in_turn_is : (commands : List Command) (s : State)
    → ((n : ℕ) → project_at (file_after (project s) (take n commands)) ≡ Ok (state_after s (take n commands)))
    → written_in_turn (in_turn s commands) ≡ one_after_another (project s) commands
in_turn_is [] s again = refl
in_turn_is (command ∷ later) s again =
    by (outcome s command) (ap (λ r. of_loaded r command) (again 0)) (λ x f. in_turn_is later x.after f) (λ n. again (suc n))
  where
    carried : (output : List ℕ) (r : Result (InTurn State) TurnFault)
        → written_in_turn (after_one output r) ≡ after_one output (written_in_turn r)
    carried output (Ok d) = refl
    carried output (Err (Turn at fault)) = refl
    carried output (Err (Project fault)) = refl

    by : (r : Result Done Fault) → executed (project s) command ≡ written r
        → ((x : Done) → ((n : ℕ) → project_at (file_after (project x.after) (take n later)) ≡ Ok (state_after x.after (take n later)))
        → written_in_turn (in_turn x.after later) ≡ one_after_another (project x.after) later)
        → ((n : ℕ) → project_at (file_after (file_or (project s) (executed (project s) command)) (take n later))
        ≡ Ok (state_after (state_or s r) (take n later)))
        → written_in_turn (done_before r (λ next. in_turn next later))
        ≡ written_before (executed (project s) command) (λ next. one_after_another next later)
    by (Ok x) e on again =
        carried x.output (in_turn x.after later)
        ∙ ap (after_one x.output) (on x (λ n. ap (λ w. project_at (file_after (file_or (project s) w) (take n later))) (sym e) ∙ again n))
        ∙ ap (λ w. written_before w (λ next. one_after_another next later)) (sym e)
    by (Err fault) e on again = ap (λ w. written_before w (λ next. one_after_another next later)) (sym e)

-- commands in turn make what they make one after another
pub in_turn_is_one_after_another : InTurnIsOneAfterAnother
in_turn_is_one_after_another bytes s commands fit again =
    let spelled : bytes ≡ project s = (project_is bytes s fit (again 0)).spelled in
    ap (λ r. loaded_in_turn r commands) (again 0)
    ∙ in_turn_is commands s (λ n. ap (λ (file : List ℕ). project_at (file_after file (take n commands))) (sym spelled) ∙ again n)
    ∙ ap (λ (file : List ℕ). one_after_another file commands) (sym spelled)

-- where all are accepted, the file is that of the replica after the last
pub accepted_is_file_after : AcceptedIsFileAfter
accepted_is_file_after bytes [] made e = cc e
accepted_is_file_after bytes (command ∷ later) made e =
    by (executed bytes command) (λ w x f. accepted_is_file_after w.project later x f) e
  where
    deep : (w : Written) → ((x : InTurn (List ℕ)) → one_after_another w.project later ≡ Ok x → file_after w.project later ≡ x.after)
        → (r : Result (InTurn (List ℕ)) TurnFault) → one_after_another w.project later ≡ r → after_one w.output r ≡ Ok made
        → file_after w.project later ≡ made.after
    deep w on (Ok x) f e = on x f ∙ cc e
    deep w on (Err (Turn at fault)) f e = cc e
    deep w on (Err (Project fault)) f e = cc e

    by : (r : Result Written Fault) → ((w : Written) (x : InTurn (List ℕ)) → one_after_another w.project later ≡ Ok x
        → file_after w.project later ≡ x.after) → written_before r (λ next. one_after_another next later) ≡ Ok made
        → file_after (file_or bytes r) later ≡ made.after
    by (Ok w) on e = deep w (on w) (one_after_another w.project later) refl e
    by (Err fault) on e = cc e
