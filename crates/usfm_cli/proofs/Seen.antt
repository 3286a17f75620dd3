-- What a command writes of what it sees of a project is what it writes of all.
use Rattle.std.proofs.Common.{Bor, ◌≡◌, ◌≢◌, ℕ, Bool, true, false, cond, List, Some, None, Result, Ok, Err, IfOk, refl, sym, ap, subst, ◌∙◌}
use Rattle.std.specs.List.{flat_map}
use Rattle.usfm_ref.specs.Segments.{segment}
use Rattle.op_core.specs.Ops.{Operation}
use Rattle.op_core.specs.OneBook.{ops_of_book}
use Rattle.op_core.proofs.Exports.OneBook.{shown_same, export_same, has_book_same}
use Rattle.replica_state.specs.States.{State}
use Rattle.bundle_codec.specs.Reading.{AreBytes}
use Rattle.replica_state.specs.OneBook.{of_one_book}
use Rattle.project_file.specs.declared.fault.LoadFault.{LoadFault}
use Rattle.project_file.specs.Projects.{project, project_at, with_book, book_at}
use Rattle.project_file.proofs.Files.{project_is}
use Rattle.segment_check.specs.Findings.{findings}
use Rattle.concordance.specs.Hits.{hits_of}
use Rattle.concordance.specs.Words.{words_of}
use Rattle.usfm_cli.specs.Commands.{Done, done_if, shown_line, outcome, only_tells, MayWantMemory}
use Rattle.usfm_cli.specs.Projects.{written, of_loaded, executed, state_or}
use Rattle.book_reports.specs.Lines.{finding_lines, hit_lines, word_lines}
use Rattle.usfm_cli.specs.SheetReports.{by_sheet, by_book_text, unless_empty}
use Rattle.usfm_cli.specs.Seen.{looked_at, seen_of, goes_by_bytes, IsSeen}
use Rattle.usfm_cli.specs.declared.command.Command.{Command}
use Rattle.usfm_cli.specs.declared.command.Command.TheVariants.{Import, ImportSince}
use Rattle.usfm_cli.specs.declared.command.Command.TheVariants.{Edit, EditOver, EditWith, Receive}
use Rattle.usfm_cli.specs.declared.command.Command.TheVariants.{Thin, Shown, Send, Export, Summary}
use Rattle.usfm_cli.specs.declared.command.Command.TheVariants.{Delta, Report, Check, Find, Words}
use Rattle.command_faults.specs.declared.fault.Fault.{Fault}
use Rattle.command_faults.specs.declared.fault.Fault.TheVariants.{NoBook}

-- ---- what is written

-- what is written of the outcome of a command, or the refusal
abbrev told_of : Result Done Fault → Result (List ℕ) Fault
told_of (Ok d) = Ok d.output
told_of (Err fault) = Err fault

told_done : (s : State) (told : Result (List ℕ) Fault) → told_of (done_if s told) ≡ told
told_done s (Ok output) = refl
told_done s (Err fault) = refl

-- outcomes of which the same is written are written alike
told_alike : (s t : State) (told other : Result (List ℕ) Fault) → told ≡ other → told_of (done_if s told) ≡ told_of (done_if t other)
told_alike s t told other same = told_done s told ∙ same ∙ sym (told_done t other)

-- what is made of a book's text, is made of it where the operations of the book are all
pub text_same : (held : List Operation) (book : List ℕ) (next : List ℕ → Result (List ℕ) Fault)
    → by_book_text (ops_of_book held book) book next ≡ by_book_text held book next
text_same held book next = λ i. cond (has_book_same held book i) (next (export_same held book i)) (Err NoBook)

-- a command writes the same of what it sees and of all
told_same : (command : Command) (s : State) → told_of (outcome (seen_of (looked_at command) s) command) ≡ told_of (outcome s command)
told_same (Import file) s = refl
told_same (ImportSince file base) s = refl
told_same (Edit book key text) s = refl
told_same (EditOver book key text ids) s = refl
told_same (EditWith book key of ids) s = refl
told_same (Receive bytes) s = refl
told_same Thin s = refl
told_same (Shown book key) s = λ i. Ok (flat_map shown_line (shown_same s.held book (segment book key) refl i))
told_same Send s = refl
told_same (Export book) s = told_alike _ s _ _ (text_same s.held book Ok)
told_same Summary s = refl
told_same (Delta summary) s = refl
told_same Report s = refl
told_same (Check book sheet) s = told_alike _ s _ _
    (λ i. by_sheet sheet.now (λ records. text_same s.held book (λ text. Ok (finding_lines book (findings records text))) i))
told_same (Find book sheet needle) s = told_alike _ s _ _ (λ i. by_sheet sheet.now (λ records.
    text_same s.held book (λ text. unless_empty needle.now (Ok (hit_lines book (hits_of records text needle.now)))) i))
told_same (Words book sheet) s = told_alike _ s _ _
    (λ i. by_sheet sheet.now (λ records. text_same s.held book (λ text. Ok (word_lines (words_of records text))) i))

-- ---- what stays

done_again : (s : State) (told : Result (List ℕ) Fault) → done_if s told ≡ done_if s (told_of (done_if s told))
done_again s told = ap (done_if s) (sym (told_done s told))

-- a command that only reports leaves the replica as it is
stays : (command : Command) (s : State) → only_tells command ≡ true → outcome s command ≡ done_if s (told_of (outcome s command))
stays (Import file) s e = cc e
stays (ImportSince file base) s e = cc e
stays (Edit book key text) s e = cc e
stays (EditOver book key text ids) s e = cc e
stays (EditWith book key of ids) s e = cc e
stays (Receive bytes) s e = cc e
stays Thin s e = cc e
stays (Shown book key) s e = refl
stays Send s e = refl
stays (Export book) s e = done_again s _
stays Summary s e = refl
stays (Delta summary) s e = done_again s _
stays Report s e = refl
stays (Check book sheet) s e = done_again s _
stays (Find book sheet needle) s e = done_again s _
stays (Words book sheet) s e = done_again s _

-- any other command sees all
sees_all : (command : Command) (s : State) → only_tells command ≡ false → seen_of (looked_at command) s ≡ s
sees_all (Import file) s e = refl
sees_all (ImportSince file base) s e = refl
sees_all (Edit book key text) s e = refl
sees_all (EditOver book key text ids) s e = refl
sees_all (EditWith book key of ids) s e = refl
sees_all (Receive bytes) s e = refl
sees_all Thin s e = refl
sees_all (Shown book key) s e = cc e
sees_all Send s e = refl
sees_all (Export book) s e = cc e
sees_all Summary s e = refl
sees_all (Delta summary) s e = refl
sees_all Report s e = refl
sees_all (Check book sheet) s e = cc e
sees_all (Find book sheet needle) s e = cc e
sees_all (Words book sheet) s e = cc e

-- a command that is no receive, no thinning, no send, no summary and no delta does not go by the bytes
pub copies : (command : Command) → ((bytes : Bor (List ℕ)) → command ≢ Receive bytes)
    → command ≢ Thin → command ≢ Send → command ≢ Summary → ((summary : Bor (List ℕ)) → command ≢ Delta summary)
    → goes_by_bytes command ≡ false
copies (Import file) r t s u d = refl
copies (ImportSince file base) r t s u d = refl
copies (Edit book key text) r t s u d = refl
copies (EditOver book key text ids) r t s u d = refl
copies (EditWith book key of ids) r t s u d = refl
copies (Receive bytes) r t s u d = absurd (r bytes refl)
copies Thin r t s u d = absurd (t refl)
copies (Shown book key) r t s u d = refl
copies Send r t s u d = absurd (s refl)
copies (Export book) r t s u d = refl
copies Summary r t s u d = absurd (u refl)
copies (Delta summary) r t s u d = absurd (d summary refl)
copies Report r t s u d = refl
copies (Check book sheet) r t s u d = refl
copies (Find book sheet needle) r t s u d = refl
copies (Words book sheet) r t s u d = refl

refused_if : (r : Result Done Fault) (fault : Fault) → told_of r ≡ Err fault → r ≡ Err fault
refused_if (Ok d) fault e = cc e
refused_if (Err f) fault e = let same : f ≡ fault = cc e in ap Err same

-- where out of memory may be answered hangs on what is written alone
may_want : (late : Fault → Bool) (r q : Result Done Fault) → told_of r ≡ told_of q → MayWantMemory late r → MayWantMemory late q
may_want late r (Ok d) e h = tt
may_want late (Ok d) (Err fault) e h = cc e
may_want late (Err f) (Err fault) e h = let same : f ≡ fault = cc e in ap late (sym same) ∙ h

-- ---- what is loaded

-- where all is loaded, a command that looks at no one book sees it
pub seen_all : (bytes : List ℕ) (command : Command) (loaded : Result State LoadFault) → looked_at command ≡ None
    → IfOk loaded (λ s. project_at bytes ≡ Ok s) → IfOk loaded (IsSeen bytes command)
seen_all bytes command (Ok s) none loads = record { whole = s; loads = loads; seen_is = ap (λ book. seen_of book s) (sym none) }
seen_all bytes command (Err fault) none loads = tt

-- where one book is loaded, a command that looks at it sees that
pub seen_one : (bytes : List ℕ) (command : Command) (book : List ℕ) (loaded : Result State LoadFault) → looked_at command ≡ Some book
    → IfOk loaded (λ s. book_at bytes book ≡ Ok s) → IfOk loaded (IsSeen bytes command)
seen_one bytes command book (Err fault) one loads = tt
seen_one bytes command book (Ok s) one loads = by (project_at bytes) refl loads
  where
    by : (read : Result State LoadFault) → project_at bytes ≡ read → with_book book read ≡ Ok s → IsSeen bytes command s
    by (Err fault) e f = cc f
    by (Ok whole) e f =
        let same : of_one_book whole book ≡ s = cc f in
        record { whole = whole; loads = e; seen_is = sym same ∙ ap (λ book. seen_of book whole) (sym one) }

-- ---- the file after it, and what is written

module _ (bytes : List ℕ) (command : Command) (seen : State) (is : IsSeen bytes command seen) where
  -- what the command makes of all of the replica
  abbrev all : Result Done Fault
  all = outcome is.whole command

  executed_is : executed bytes command ≡ written all
  executed_is = ap (λ r. of_loaded r command) is.loads

  told_by : told_of (outcome seen command) ≡ told_of all
  told_by = ap (λ (s : State). told_of (outcome s command)) is.seen_is ∙ told_same command is.whole

  -- a project that is loaded again is the same
  whole_is : (s : State) → project_at bytes ≡ Ok s → is.whole ≡ s
  whole_is s loads = let e : Ok is.whole ≡ Ok s = sym is.loads ∙ loads in cc e

  -- a refusal is that of the command on all
  pub refused_all : (fault : Fault) → outcome seen command ≡ Err fault → executed bytes command ≡ Err fault
  refused_all fault e = executed_is ∙ ap written (refused_if all fault (sym told_by ∙ ap told_of e))

  -- where out of memory may be answered of what is seen, it may be of all
  pub seen_wants : (late : Fault → Bool) (s : State) → project_at bytes ≡ Ok s → MayWantMemory late (outcome seen command)
      → MayWantMemory late (outcome s command)
  seen_wants late s loads h =
      subst (λ (t : State). MayWantMemory late (outcome t command)) (whole_is s loads) (may_want late (outcome seen command) all told_by h)

  module _ (after : State) (output : List ℕ) (e : outcome seen command ≡ Ok (record { after = after; output = output })) where
    -- what is written is what the command writes of all
    tells : only_tells command ≡ true → all ≡ Ok (record { after = is.whole; output = output })
    tells only = stays command is.whole only ∙ ap (done_if is.whole) (sym told_by ∙ ap told_of e)

    changes : only_tells command ≡ false → all ≡ Ok (record { after = after; output = output })
    changes not =
        ap (λ (s : State). outcome s command) (sym (is.seen_is ∙ sees_all command is.whole not)) ∙ e

    -- a command that only reports gives the file back
    pub told_all : AreBytes bytes → only_tells command ≡ true
        → executed bytes command ≡ Ok (record { project = bytes; output = output })
    told_all fit only =
        executed_is ∙ ap written (tells only)
        ∙ (λ i. Ok (record { project = sym (project_is bytes is.whole fit is.loads).spelled i; output = output }))

    -- any other gives the file of the replica after it
    pub changed_all : (file : List ℕ) → only_tells command ≡ false → file ≡ project after
        → executed bytes command ≡ Ok (record { project = file; output = output })
    changed_all file not is_file =
        executed_is ∙ ap written (changes not) ∙ (λ i. Ok (record { project = sym is_file i; output = output }))

    -- the replica of the file after a command that only reports
    pub told_state : (s : State) → only_tells command ≡ true → project_at bytes ≡ Ok s
        → project_at bytes ≡ Ok (state_or s (outcome s command))
    told_state s only loads =
        loads ∙ ap Ok (sym (ap (λ (t : State). state_or t (outcome t command)) (sym (whole_is s loads))
        ∙ ap (state_or is.whole) (tells only) ∙ whole_is s loads))

    -- the replica of the file after any other command
    pub changed_state : (s : State) → only_tells command ≡ false → project_at bytes ≡ Ok s → after ≡ state_or s (outcome s command)
    changed_state s not loads =
        sym (ap (λ (t : State). state_or t (outcome t command)) (sym (whole_is s loads)) ∙ ap (state_or is.whole) (changes not))
