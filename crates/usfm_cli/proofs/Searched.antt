-- What a search of a book by a sheet gives, once the sheet was read and the book has an operation.
use Rattle.std.proofs.Common.{◌≡◌, ◌≢◌, ℕ, Bool, true, false, List, [], ◌∷◌, cond, Result, Ok, Err, IsTrue, IsUtf8, refl, sym, ap, subst, ◌∙◌}
use Rattle.std.specs.Str.{is_utf8}
use Rattle.std.proofs.lemmas.Bool.{cond-true, cond-false, false≢true}
use Rattle.std.proofs.lemmas.Str.{is_utf8-from_IsUtf8}
use Rattle.sty_sheet.specs.Records.{Record}
use Rattle.sty_sheet.specs.Memory.{takes_memory}
use Rattle.sty_sheet.specs.Sheets.{sheet_of}
use Rattle.sty_sheet.specs.Views as sheets
use Rattle.sty_sheet.specs.declared.fault.SheetFault.{SheetFault}
use Rattle.sty_sheet.specs.declared.fault.SheetFault.TheVariants as sheet_faults
use Rattle.op_core.specs.Ops.{Operation}
use Rattle.op_core.specs.Export.{has_book, export}
use Rattle.concordance.specs.Hits.{hits_of}
use Rattle.concordance.specs.declared.fault.FindFault.{FindFault}
use Rattle.concordance.specs.declared.fault.FindFault.TheVariants as finding
use Rattle.usfm_export.specs.Books.{AnswersText}
use Rattle.usfm_export.specs.declared.fault.TextFault.{TextFault}
use Rattle.usfm_export.specs.declared.fault.TextFault.TheVariants as giving
use Rattle.usfm_cli.specs.Commands.{MayWantMemory, Gives}
use Rattle.command_faults.specs.Faults.{of_find, of_sheet, of_book_text}
use Rattle.book_reports.specs.Lines.{hit_lines}
use Rattle.usfm_cli.specs.SheetReports.{by_records, by_sheet, by_book_text, unless_empty, searched, is_after_sheet}
use Rattle.command_faults.specs.declared.fault.Fault.{Fault}
use Rattle.command_faults.specs.declared.fault.Fault.TheVariants.{NoBook}

-- bytes that are text are judged to be text
pub is_told_as_text : (bytes text : List ℕ) → bytes ≡ text → IsUtf8 text → is_utf8 bytes ≡ false → ⊥
is_told_as_text bytes text e is refused = false≢true (sym refused ∙ ap is_utf8 e ∙ is_utf8-from_IsUtf8 text is)

-- ---- where memory may be wanted

module _ (bytes : List ℕ) where
  -- nothing but a book's missing operations is refused before what is written of it
  pub book_wanted : (held : List Operation) (book : List ℕ) (next : List ℕ → Result (List ℕ) Fault)
      → ((text : List ℕ) → MayWantMemory (is_after_sheet bytes) (next text))
      → MayWantMemory (is_after_sheet bytes) (by_book_text held book next)
  book_wanted held book next later = by (has_book held book)
    where
      by : (has : Bool) → MayWantMemory (is_after_sheet bytes) (cond has (next (export held book)) (Err NoBook))
      by true = later (export held book)
      by false = refl

  module _ (next : List Record → Result (List ℕ) Fault) (is : is_utf8 bytes ≡ true) where
    by_faults : (r : Result (List Record) SheetFault) → IsTrue (takes_memory bytes)
        → ((records : List Record) → MayWantMemory (is_after_sheet bytes) (next records))
        → MayWantMemory (is_after_sheet bytes) (by_records r next)
    by_faults (Ok records) takes later = later records
    by_faults (Err sheet_faults.Memory) takes later = takes
    by_faults (Err (sheet_faults.FieldBeforeMarker n)) takes later = takes
    by_faults (Err (sheet_faults.EmptyMarker n)) takes later = takes
    by_faults (Err (sheet_faults.BadStyleType n)) takes later = takes

    due : (text : List ℕ) (fault : Fault) (told : SheetFault) → text ≡ bytes → sheet_of text ≡ Err told → of_sheet told ≡ fault
        → by_sheet bytes next ≡ Err fault
    due text fault told same read e =
        cond-true _ _ _ is ∙ ap (λ r. by_records r next) (ap sheet_of (sym same) ∙ read) ∙ ap Err e

    -- a sheet that is refused, or for which there is no memory
    pub sheet_refused : (A : Type 0) (text : List ℕ) (fault : SheetFault) → text ≡ bytes
        → sheets.Gives (Err fault) (sheet_of text) → (fault ≡ sheet_faults.Memory → IsTrue (takes_memory text))
        → ((records : List Record) → MayWantMemory (is_after_sheet bytes) (next records))
        → Gives {A = A} (is_after_sheet bytes) (by_sheet bytes next) (Err (of_sheet fault))
    sheet_refused A text sheet_faults.Memory same read takes later =
        subst (MayWantMemory (is_after_sheet bytes)) (sym (cond-true _ _ _ is))
        (by_faults (sheet_of bytes) (ap takes_memory (sym same) ∙ takes refl) later)
    sheet_refused A text (sheet_faults.FieldBeforeMarker n) same read takes later = due text _ _ same read refl
    sheet_refused A text (sheet_faults.EmptyMarker n) same read takes later = due text _ _ same read refl
    sheet_refused A text (sheet_faults.BadStyleType n) same read takes later = due text _ _ same read refl

-- what is searched where the sheet is one and the book has an operation
pub searched_is : (held : List Operation) (book sheet needle : List ℕ) (records : List Record) →
    is_utf8 sheet ≡ true → sheet_of sheet ≡ Ok records → has_book held book ≡ true →
    searched held book sheet needle ≡ unless_empty needle (Ok (hit_lines book (hits_of records (export held book) needle)))
searched_is held book sheet needle records is read has =
    let found = λ (r : List Record). by_book_text held book (λ text. unless_empty needle (Ok (hit_lines book (hits_of r text needle)))) in
    cond-true _ _ _ is ∙ ap (λ r. by_records r found) read ∙ cond-true _ _ _ has

-- a needle that is not empty is not refused
pub some_needle : (needle : List ℕ) (found : Result (List ℕ) Fault) → needle ≢ [] → unless_empty needle found ≡ found
some_needle [] found some = absurd (some refl)
some_needle (b ∷ needle) found some = refl

-- a search may answer out of memory
pub search_is_late : (sheet needle found : List ℕ) → MayWantMemory (is_after_sheet sheet) (unless_empty needle (Ok found))
search_is_late sheet [] found = refl
search_is_late sheet (b ∷ needle) found = tt

-- a search is refused as out of memory, or for a needle that is empty
pub search_refused : (A : Type 0) (sheet needle found : List ℕ) (wanted : Result (List ℕ) Fault) (fault : FindFault) →
    wanted ≡ unless_empty needle (Ok found) → (fault ≡ finding.EmptyNeedle → needle ≡ []) →
    Gives {A = A} (is_after_sheet sheet) wanted (Err (of_find fault))
search_refused A sheet needle found wanted finding.Memory e h =
    subst (MayWantMemory (is_after_sheet sheet)) (sym e) (search_is_late sheet needle found)
search_refused A sheet needle found wanted finding.EmptyNeedle e h = e ∙ ap (λ (n : List ℕ). unless_empty n (Ok found)) (h refl)

-- a book without an operation is refused, and of one that has some out of memory may be answered
pub search_without_text : (A B : Type 0) (held : List Operation) (book sheet needle : List ℕ) (records : List Record)
    (fault : TextFault) → is_utf8 sheet ≡ true → sheet_of sheet ≡ Ok records → AnswersText {A = A} held book (Err fault)
    → Gives {A = B} (is_after_sheet sheet) (searched held book sheet needle) (Err (of_book_text fault))
search_without_text A B held book sheet needle records giving.NoBook is read has =
    let lines = λ (r : List Record) (text : List ℕ). hit_lines book (hits_of r text needle) in
    let found = λ (r : List Record). by_book_text held book (λ text. unless_empty needle (Ok (lines r text))) in
    cond-true _ _ _ is ∙ ap (λ r. by_records r found) read ∙ cond-false _ _ _ has
search_without_text A B held book sheet needle records giving.Memory is read has =
    let due = searched_is held book sheet needle records is read has in
    subst (MayWantMemory (is_after_sheet sheet)) (sym due) (search_is_late sheet needle _)
