-- What is reported of a project by a sheet: where memory may be wanted, and that it is what is seen of it.
use Rattle.std.proofs.Common.{◌≡◌, ◌≢◌, ℕ, Bool, true, cond, List, map, Option, Some, None, Result, Ok, Err, Vec, refl, sym, ap, subst, ◌∙◌}
use Rattle.std.specs.List.{flat_map}
use Rattle.std.specs.Str.{is_utf8}
use Rattle.std.proofs.lemmas.Bool.{cond-true, cond-false}
use Rattle.usfm_ref.specs.Keys.{KeyParts, key_cmp}
use Rattle.usfm_ref.specs.Rising.{rising}
use Rattle.usfm_ref.specs.Segments.{segment}
use Rattle.sty_sheet.specs.Records.{Record}
use Rattle.sty_sheet.specs.Sheets.{sheet_of}
use Rattle.book_reports.specs.declared.form.Form.{Form}
use Rattle.op_core.specs.Ops.{Operation}
use Rattle.op_core.specs.Export.{of_book, has_book, export}
use Rattle.op_core.specs.Lists.{keys_of}
use Rattle.op_core.specs.OneBook.{ops_of_book}
use Rattle.op_core.specs.Shown.{pick}
use Rattle.op_core.proofs.Exports.ByShown.{pick_same}
use Rattle.op_core.proofs.Exports.OneBook.{shown_same, has_book_same}
use Rattle.op_core.proofs.FilteredLists.{filter_both}
use Rattle.verse_cut.proofs.MarkLaws.{both_second}
use Rattle.usfm_export.specs.Books.{AnswersText}
use Rattle.usfm_export.specs.declared.fault.TextFault.{TextFault}
use Rattle.usfm_export.specs.declared.fault.TextFault.TheVariants as giving
use Rattle.replica_state.specs.States.{State}
use Rattle.project_file.specs.Answers.{RefusesLoad}
use Rattle.project_file.specs.Projects.{project_at}
use Rattle.project_file.specs.declared.fault.LoadFault.{LoadFault}
use Rattle.project_file.specs.declared.fault.LoadFault.TheVariants as loading
use Rattle.book_reports.specs.Reports as reports
use Rattle.versification.specs.Versifications.{Verses, versification_of}
use Rattle.project_status.specs.Progress.{in_chapter, chapter_of, below, progress_line, book_progress}
use Rattle.project_status.specs.Verses.{verse_picked, verses_of}
use Rattle.usfm_cli.specs.Commands.{MayWantMemory, Gives}
use Rattle.usfm_cli.specs.Copies.{progress_in, progress_by}
use Rattle.command_faults.specs.Faults.{of_loading, of_book_text}
use Rattle.usfm_cli.specs.Missing.{by_verses}
use Rattle.usfm_cli.specs.EveryBook.{all_searched}
use Rattle.usfm_cli.specs.OverBooks.{findings_of, checked, hits_of, searched, of_loaded, told_by, AnswersProject, IsSeenOf, SeesNothing, WantsMemory}
use Rattle.usfm_cli.specs.Seen.{seen_of}
use Rattle.usfm_cli.specs.SheetReports.{by_records, by_sheet, unless_empty, is_after_sheet}
use Rattle.command_faults.specs.declared.fault.Fault.{Fault}
use Rattle.command_faults.specs.declared.fault.Fault.TheVariants.{Memory, NotText, Reference, NoId, FieldBeforeMarker, EmptyMarker, BadStyleType, BadVersification}
use Rattle.command_faults.specs.declared.fault.Fault.TheVariants.{Naming, Clash, Bundle, Trailing, BadSummary, BadSeal, BadSegment, NumbersUsedUp, NoBook}
use Rattle.command_faults.specs.declared.fault.Fault.TheVariants.{NotShown, LeftOut, BadAnswers, WriteFailed, EmptyNeedle, BadProject, ReadFailed, TooLong}
use Rattle.command_faults.specs.declared.fault.Fault.TheVariants.{FileFailed, FileChanged, Emptied, Undone, Unlike, SettledEarly}
use Rattle.usfm_cli.proofs.Loading.{loads_or_wants}
use Rattle.usfm_cli.proofs.Searched.{book_wanted, search_is_late}
use Rattle.usfm_cli.proofs.Seen.{text_same}

-- ---- where memory may be wanted

-- nothing but a book's missing operations is refused once the sheet was read
pub findings_wanted : (sheet : List ℕ) (held : List Operation) (form : Form) (book : Option (List ℕ)) (records : List Record)
    → MayWantMemory (is_after_sheet sheet) (findings_of held form book records)
findings_wanted sheet held form None records = tt
findings_wanted sheet held form (Some book) records =
    book_wanted sheet held book (λ text. Ok (reports.checked form records book text)) (λ text. tt)

-- and an empty needle
pub hits_wanted : (sheet : List ℕ) (held : List Operation) (form : Form) (book : Option (List ℕ)) (needle : List ℕ)
    (records : List Record) → MayWantMemory (is_after_sheet sheet) (hits_of held form book needle records)
hits_wanted sheet held form None needle records = search_is_late sheet needle (all_searched form records needle held)
hits_wanted sheet held form (Some book) needle records =
    book_wanted sheet held book (λ text. unless_empty needle (Ok (reports.searched form records needle book text)))
    (λ text. search_is_late sheet needle (reports.searched form records needle book text))

-- what is found in a book where the sheet is one and the book has an operation
pub hits_are : (held : List Operation) (form : Form) (book needle sheet : List ℕ) (records : List Record)
    → is_utf8 sheet ≡ true → sheet_of sheet ≡ Ok records → has_book held book ≡ true
    → searched held form (Some book) needle sheet
    ≡ unless_empty needle (Ok (reports.searched form records needle book (export held book)))
hits_are held form book needle sheet records is read has =
    cond-true _ _ _ is ∙ ap (λ r. by_records r (hits_of held form (Some book) needle)) read ∙ cond-true _ _ _ has

-- a book without an operation is refused, and of one that has some out of memory may be answered
pub hits_without_text : (A B : Type 0) (held : List Operation) (form : Form) (book needle sheet : List ℕ)
    (records : List Record) (fault : TextFault) → is_utf8 sheet ≡ true → sheet_of sheet ≡ Ok records
    → AnswersText {A = A} held book (Err fault)
    → Gives {A = B} (is_after_sheet sheet) (searched held form (Some book) needle sheet) (Err (of_book_text fault))
hits_without_text A B held form book needle sheet records giving.NoBook is read has =
    cond-true _ _ _ is ∙ ap (λ r. by_records r (hits_of held form (Some book) needle)) read ∙ cond-false _ _ _ has
hits_without_text A B held form book needle sheet records giving.Memory is read has =
    let due = hits_are held form book needle sheet records is read has in
    subst (MayWantMemory (is_after_sheet sheet)) (sym due) (search_is_late sheet needle _)

-- the same of the findings
pub findings_without_text : (A B : Type 0) (held : List Operation) (form : Form) (book sheet : List ℕ)
    (records : List Record) (fault : TextFault) → is_utf8 sheet ≡ true → sheet_of sheet ≡ Ok records
    → AnswersText {A = A} held book (Err fault)
    → Gives {A = B} (is_after_sheet sheet) (checked held form (Some book) sheet) (Err (of_book_text fault))
findings_without_text A B held form book sheet records giving.NoBook is read has =
    cond-true _ _ _ is ∙ ap (λ r. by_records r (findings_of held form (Some book))) read ∙ cond-false _ _ _ has
findings_without_text A B held form book sheet records giving.Memory is read has =
    let due = cond-true _ _ _ is ∙ ap (λ r. by_records r (findings_of held form (Some book))) read in
    subst (MayWantMemory (is_after_sheet sheet)) (sym due) (findings_wanted sheet held form (Some book) records)

-- ---- what is seen

pub checked_same : (book : Option (List ℕ)) (s : State) (form : Form) (sheet : List ℕ)
    → checked (seen_of book s).held form book sheet ≡ checked s.held form book sheet
checked_same None s form sheet = refl
checked_same (Some book) s form sheet =
    λ i. by_sheet sheet (λ records. text_same s.held book (λ text. Ok (reports.checked form records book text)) i)

pub searched_same : (book : Option (List ℕ)) (s : State) (form : Form) (needle sheet : List ℕ)
    → searched (seen_of book s).held form book needle sheet ≡ searched s.held form book needle sheet
searched_same None s form needle sheet = refl
searched_same (Some book) s form needle sheet = λ i. by_sheet sheet (λ records.
    text_same s.held book (λ text. unless_empty needle (Ok (reports.searched form records needle book text))) i)

-- how far a book is, is the same where the operations of the book are all
progress_in_same : (v : Verses) (held : List Operation) (book : List ℕ)
    → progress_in v (ops_of_book held book) book ≡ progress_in v held book
progress_in_same v held book = λ i. cond (has_book_same held book i) (Ok (progress i)) (Err NoBook)
  where
    keys_same : keys_of (ops_of_book held book) book ≡ keys_of held book
    keys_same = ap (λ (ops : List Operation). rising key_cmp (map (λ o. o.segment.key) ops))
        (filter_both (of_book book) (of_book book) (of_book book) (λ o. both_second (of_book book o) (of_book book o) (λ h. h)) held)

    picks_same : (key : KeyParts) → pick (ops_of_book held book) (segment book key) ≡ pick held (segment book key)
    picks_same key = pick_same (ops_of_book held book) held book (λ k. shown_same held book (segment book k) refl) key

    verses_same : verses_of (ops_of_book held book) book ≡ verses_of held book
    verses_same = λ i. flat_map (λ key. verse_picked key (picks_same key i)) (keys_same i)

    progress : book_progress v (ops_of_book held book) book ≡ book_progress v held book
    progress = λ i. flat_map (progress_line book) (flat_map (λ c. chapter_of v book c (in_chapter c (verses_same i))) (below 1000))

-- the same of one book or of all, by the versification of a file
pub progress_same : (book : Option (List ℕ)) (s : State) (file : List ℕ)
    → progress_by (seen_of book s).held book file ≡ progress_by s.held book file
progress_same None s file = refl
progress_same (Some book) s file = λ i. by_verses (versification_of file) (λ v. progress_in_same v s.held book i)

-- what is given is what is wanted, where it is not that memory ended
given_for : (A : Type 0) (late : Fault → Bool) (wanted : Result (List ℕ) Fault) (result : Result (Vec ℕ A) Fault)
    → Gives late wanted result → result ≢ Err Memory → wanted ≡ told_by result
given_for A late wanted (Ok lines) h other = h
given_for A late wanted (Err Memory) h other = absurd (other refl)
given_for A late wanted (Err (NotText valid)) h other = h
given_for A late wanted (Err (Reference fault)) h other = h
given_for A late wanted (Err NoId) h other = h
given_for A late wanted (Err (FieldBeforeMarker line)) h other = h
given_for A late wanted (Err (EmptyMarker line)) h other = h
given_for A late wanted (Err (BadStyleType line)) h other = h
given_for A late wanted (Err (BadVersification line)) h other = h
given_for A late wanted (Err (Naming fault)) h other = h
given_for A late wanted (Err (Clash id)) h other = h
given_for A late wanted (Err (Bundle fault)) h other = h
given_for A late wanted (Err Trailing) h other = h
given_for A late wanted (Err BadSummary) h other = h
given_for A late wanted (Err BadSeal) h other = h
given_for A late wanted (Err BadSegment) h other = h
given_for A late wanted (Err NumbersUsedUp) h other = h
given_for A late wanted (Err NoBook) h other = h
given_for A late wanted (Err (NotShown id)) h other = h
given_for A late wanted (Err (LeftOut id)) h other = h
given_for A late wanted (Err (BadAnswers line)) h other = h
given_for A late wanted (Err (WriteFailed gone)) h other = h
given_for A late wanted (Err EmptyNeedle) h other = h
given_for A late wanted (Err BadProject) h other = h
given_for A late wanted (Err ReadFailed) h other = h
given_for A late wanted (Err TooLong) h other = h
given_for A late wanted (Err FileFailed) h other = h
given_for A late wanted (Err FileChanged) h other = h
given_for A late wanted (Err (Emptied count)) h other = h
given_for A late wanted (Err (Undone count)) h other = h
given_for A late wanted (Err (Unlike count)) h other = h
given_for A late wanted (Err SettledEarly) h other = h

-- what is given of what is seen of a project is what is wanted of all of it
pub seen_given : (A : Type 0) (bytes : List ℕ) (book : Option (List ℕ)) (seen : State) (late : Fault → Bool)
    (reported : List Operation → Result (List ℕ) Fault) (result : Result (Vec ℕ A) Fault) → IsSeenOf bytes book seen
    → ((s : State) → reported (seen_of book s).held ≡ reported s.held) → Gives late (reported seen.held) result
    → AnswersProject bytes reported result
seen_given A bytes book seen late reported result is same gives other =
    ap (λ r. of_loaded r reported) is.loads ∙ sym (same is.whole) ∙ ap (λ (s : State). reported s.held) (sym is.seen_is)
    ∙ given_for A late (reported seen.held) result gives other

-- the findings in what is seen of a project
pub checked_given : (A : Type 0) (bytes : List ℕ) (book : Option (List ℕ)) (seen : State) (form : Form) (sheet : List ℕ)
    (result : Result (Vec ℕ A) Fault) → IsSeenOf bytes book seen
    → Gives (is_after_sheet sheet) (checked seen.held form book sheet) result
    → AnswersProject bytes (λ held. checked held form book sheet) result
checked_given A bytes book seen form sheet result is gives =
    seen_given A bytes book seen (is_after_sheet sheet) (λ held. checked held form book sheet) result is
    (λ s. checked_same book s form sheet) gives

-- the hits in what is seen of a project
pub searched_given : (A : Type 0) (bytes : List ℕ) (book : Option (List ℕ)) (seen : State) (form : Form)
    (needle sheet : List ℕ) (result : Result (Vec ℕ A) Fault) → IsSeenOf bytes book seen
    → Gives (is_after_sheet sheet) (searched seen.held form book needle sheet) result
    → AnswersProject bytes (λ held. searched held form book needle sheet) result
searched_given A bytes book seen form needle sheet result is gives =
    seen_given A bytes book seen (is_after_sheet sheet) (λ held. searched held form book needle sheet) result is
    (λ s. searched_same book s form needle sheet) gives

-- what is reported of a project that is seen whole
pub whole_given : (A : Type 0) (bytes : List ℕ) (seen : State) (late : Fault → Bool) (reported : List Operation → Result (List ℕ) Fault)
    (result : Result (Vec ℕ A) Fault) → IsSeenOf bytes None seen → Gives late (reported seen.held) result
    → AnswersProject bytes reported result
whole_given A bytes seen late reported result is gives =
    seen_given A bytes None seen late reported result is (λ s. refl) gives

-- where out of memory may be answered of what is seen of a project, it may be of all of it
pub seen_wants : (A : Type 0) (bytes : List ℕ) (book : Option (List ℕ)) (seen : State) (late : Fault → Bool)
    (reported : List Operation → Result (List ℕ) Fault) (result : Result (Vec ℕ A) Fault) → IsSeenOf bytes book seen
    → ((s : State) → reported (seen_of book s).held ≡ reported s.held) → Gives late (reported seen.held) result
    → WantsMemory bytes book late reported result
seen_wants A bytes book seen late reported result is same gives none s loads place =
    let wants : MayWantMemory late (reported seen.held) = subst (Gives {A = A} late (reported seen.held)) none gives in
    let whole : is.whole ≡ s = cc (sym is.loads ∙ loads) in
    subst (MayWantMemory late)
    (ap (λ (t : State). reported t.held) is.seen_is ∙ same is.whole ∙ ap (λ (t : State). reported t.held) whole) wants

-- a project that can be read without memory is not refused while it is read
pub reads_in_place : (A : Type 0) (bytes : List ℕ) (book : Option (List ℕ)) (late : Fault → Bool)
    (reported : List Operation → Result (List ℕ) Fault) (fault : LoadFault) (result : Result (Vec ℕ A) Fault) → RefusesLoad bytes fault
    → ((s : State) → project_at bytes ≡ Ok s → SeesNothing book s → fault ≢ loading.Memory)
    → WantsMemory bytes book late reported result
reads_in_place A bytes book late reported fault result refused place none s loads sees =
    absurd (loads_or_wants bytes s fault loads refused (place s loads sees))

-- a project that is not read is refused for that
pub not_read : (A : Type 0) (bytes : List ℕ) (reported : List Operation → Result (List ℕ) Fault) (fault : LoadFault)
    → RefusesLoad bytes fault → AnswersProject {A = A} bytes reported (Err (of_loading fault))
not_read A bytes reported loading.Memory refused other = absurd (other refl)
not_read A bytes reported loading.BadProject refused other = ap (λ r. of_loaded r reported) refused
not_read A bytes reported (loading.Bundle fault) refused other = ap (λ r. of_loaded r reported) refused
