-- What is reported of a project by a style sheet (this project's own rule): of all its books, or of
-- one with the lines of its text. What is answered of a project at which one book is looked at, or
-- all.
use Rattle.std.specs.Prelude.{◌≡◌, ◌≢◌, ℕ, Bool, List, [], Option, None, Some, Result, Ok, Err, Vec, IsTrue}
use Rattle.sty_sheet.specs.Records.{Record}
use Rattle.op_core.specs.Ops.{Operation}
use Rattle.op_core.specs.Thinned.{all_full}
use Rattle.book_reports.specs.declared.form.Form.{Form}
use Rattle.book_reports.specs.Reports as reports
use Rattle.usfm_cli.specs.EveryBook.{all_checked, all_searched, all_listed}
use Rattle.replica_state.specs.States.{State}
use Rattle.project_file.specs.declared.fault.LoadFault.{LoadFault}
use Rattle.project_file.specs.Projects.{project_at}
use Rattle.usfm_cli.specs.Commands.{MayWantMemory}
use Rattle.command_faults.specs.Faults.{of_loading}
use Rattle.usfm_cli.specs.Seen.{seen_of}
use Rattle.usfm_cli.specs.SheetReports.{by_sheet, by_book_text, unless_empty}
use Rattle.command_faults.specs.declared.fault.Fault.{Fault}
use Rattle.command_faults.specs.declared.fault.Fault.TheVariants.{Memory}

-- the findings in all books, or in one
abbrev pub findings_of : List Operation → Form → Option (List ℕ) → List Record
    → Result (List ℕ) Fault
findings_of held form None sheet = Ok (all_checked form sheet held)
findings_of held form (Some book) sheet =
    by_book_text held book (λ text. Ok (reports.checked form sheet book text))

-- the same by a sheet that is given as bytes
abbrev pub checked : List Operation → Form → Option (List ℕ) → List ℕ
    → Result (List ℕ) Fault
checked held form book sheet = by_sheet sheet (findings_of held form book)

-- the hits of a needle in all books, or in one; where it is empty it is refused after a book
-- without an operation
abbrev pub hits_of : List Operation → Form → Option (List ℕ) → List ℕ → List Record
    → Result (List ℕ) Fault
hits_of held form None needle sheet =
    unless_empty needle (Ok (all_searched form sheet needle held))
hits_of held form (Some book) needle sheet = by_book_text held book
    (λ text. unless_empty needle (Ok (reports.searched form sheet needle book text)))

-- the same by a sheet that is given as bytes
abbrev pub searched : List Operation → Form → Option (List ℕ) → List ℕ → List ℕ
    → Result (List ℕ) Fault
searched held form book needle sheet = by_sheet sheet (hits_of held form book needle)

-- the words of all books, by a sheet that is given as bytes
abbrev pub listed : List Operation → List ℕ → Result (List ℕ) Fault
listed held sheet = by_sheet sheet (λ records. Ok (all_listed records held))

-- what is reported of a replica that was read, or why none was read
abbrev pub of_loaded : Result State LoadFault → (List Operation → Result (List ℕ) Fault)
    → Result (List ℕ) Fault
of_loaded (Ok s) reported = reported s.held
of_loaded (Err fault) reported = Err (of_loading fault)

-- what is written of an answer, or the refusal
abbrev pub told_by : {A : Type 0} → Result (Vec ℕ A) Fault → Result (List ℕ) Fault
told_by (Ok lines) = Ok lines.items
told_by (Err fault) = Err fault

-- What is answered of a project: what is reported of its replica, or why none was read or nothing
-- is reported; or out of memory.
abbrev pub AnswersProject : {A : Type 0} → List ℕ → (List Operation → Result (List ℕ) Fault)
    → Result (Vec ℕ A) Fault → Type 0
AnswersProject bytes reported result =
    result ≢ Err Memory → of_loaded (project_at bytes) reported ≡ told_by result

-- Of a replica one book is looked at, or all, and nothing of that is held, nor is any operation
-- thinned: so its file is read without memory.
pub record SeesNothing (book : Option (List ℕ)) (s : State) : Type 0 where
  pub full : IsTrue (all_full s.held)
  pub none_seen : (seen_of book s).held ≡ []

-- Where a project is read without memory, out of memory is answered only where it may be of what
-- is reported, and so in the place of no refusal that is found without it.
abbrev pub WantsMemory : {A : Type 0} → List ℕ → Option (List ℕ) → (Fault → Bool)
    → (List Operation → Result (List ℕ) Fault) → Result (Vec ℕ A) Fault → Type 0
WantsMemory bytes book late reported result =
    result ≡ Err Memory → (s : State) → project_at bytes ≡ Ok s → SeesNothing book s
    → MayWantMemory late (reported s.held)

-- bytes are a project file, and a replica is what is seen of its replica: of one book what it
-- holds, or all
pub record IsSeenOf (bytes : List ℕ) (book : Option (List ℕ)) (seen : State) : Type 0 where
  pub whole : State
  pub loads : project_at bytes ≡ Ok whole
  pub seen_is : seen ≡ seen_of book whole
