-- What is folded is written of the operations of one book alone, and is the same as of all.
use Rattle.std.proofs.Common.{◌≡◌, Bool, true, false, inr, is_ok, ℕ, List, [], Option, Result, Ok, Err, refl, sym, ap, subst, ◌∙◌}
use Rattle.std.proofs.lemmas.Bool.{cond-true, cond-false}
use Rattle.std.specs.Io.KnownBytes.{Appends}
use Rattle.op_core.specs.Ops.{Operation}
use Rattle.op_core.specs.Export.{of_book, has_book, export}
use Rattle.op_core.specs.OneBook.{ops_of_book}
use Rattle.op_core.proofs.Exports.OneBook.{export_same, has_book_same}
use Rattle.op_core.proofs.FilteredLists.{filter_none}
use Rattle.usfm_export.specs.Books as exports
use Rattle.usfm_export.specs.Books.{AnswersBook}
use Rattle.usfm_export.specs.Writing.{TakesFront}
use Rattle.usfm_export.specs.declared.fault.ExportFault.{ExportFault}
use Rattle.usfm_export.specs.declared.fault.ExportFault.TheVariants as writing
use Rattle.command_faults.specs.Faults.{of_export}
use Rattle.usfm_cli.specs.Folding.{AnswersBundles, sink_failures}
use Rattle.usfm_cli.specs.Streams.{union_in, book_from, book_of_stream}
use Rattle.command_faults.specs.declared.fault.Fault.TheVariants.{Memory, NoBook}

-- what is answered of the book's operations, is answered of all
pub answers_same : (union : List Operation) (book : List ℕ) (before after : Option (List ℕ)) (r : Result (Unit {0}) ExportFault)
    → AnswersBook (ops_of_book union book) book before after r → AnswersBook union book before after r
answers_same union book before after (Ok done) h =
    (sym (has_book_same union book) ∙ h.0, subst (Appends before after) (export_same union book) h.1)
answers_same union book before after (Err writing.NoBook) h = (sym (has_book_same union book) ∙ h.0, h.1)
answers_same union book before after (Err (writing.WriteFailed gone)) h = (
  sym (has_book_same union book) ∙ h.0,
  subst (λ (text : List ℕ). TakesFront before after text 0 gone) (export_same union book) h.1,
)

-- the failures of a sink are counted alike
pub failed_same : (fault : ExportFault) (failures : ℕ) → sink_failures (Err (of_export fault)) failures
    ≡ exports.sink_failures (Err fault) failures
failed_same writing.NoBook failures = refl
failed_same (writing.WriteFailed gone) failures = refl

-- bundles were read whole, and have this union
module _ (book input : List ℕ) (before after : Option (List ℕ)) (union : List Operation) (is : union_in [] input ≡ Ok union) where
  text_is : has_book union book ≡ true → book_of_stream book input ≡ Ok (export union book)
  text_is has = ap (book_from book) is ∙ cond-true (has_book union book) (Ok (export union book)) (Err NoBook) has

  pub written_all : (done : Unit {0}) → AnswersBook union book before after (Ok done) → AnswersBundles book input before after (Ok done)
  written_all done h = (export union book, text_is h.0, h.1)

  pub not_written : (fault : ExportFault) → AnswersBook union book before after (Err fault)
      → AnswersBundles book input before after (Err (of_export fault))
  not_written writing.NoBook h =
      (ap (book_from book) is ∙ cond-false (has_book union book) (Ok (export union book)) (Err NoBook) h.0, h.1)
  not_written (writing.WriteFailed gone) h = (export union book, text_is h.0, h.1)

  -- where the book has operations to copy, it is given
  pub not_copied : (ops_of_book union book ≡ [] → ⊥) → AnswersBundles book input before before (Err Memory)
  not_copied some = (inr (ap is_ok (text_is (has (has_book union book) refl))), refl)
    where
      has : (b : Bool) → has_book union book ≡ b → has_book union book ≡ true
      has true e = e
      has false e = absurd (some (filter_none (of_book book) union e))
