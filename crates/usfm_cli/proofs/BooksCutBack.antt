-- The book that is folded from a stream, or exported, cuts back into the picked texts.
use Rattle.std.proofs.Common.{◌≡◌, ℕ, Bool, true, false, cond, List, [], ◌∷◌, Option, None, Some, Result, Ok, Err, refl, sym, subst, ◌∙◌}
use Rattle.std.specs.List.{AllByRecursion}
use Rattle.op_core.specs.Ids.{Id}
use Rattle.op_core.specs.Ops.{Operation}
use Rattle.op_core.specs.Sets.{IsOpSet, clash, join}
use Rattle.op_core.specs.Export.{has_book, export}
use Rattle.op_core.proofs.Sets.Union.{IsOpSet-join}
use Rattle.usfm_export.specs.Books.{IsBookOf}
use Rattle.usfm_export.proofs.Books.{is_book}
use Rattle.usfm_tree.specs.SheetViews.{styles_in}
use Rattle.usfm_tree.proofs.LeavesLemmas.{tree_bytes}
use Rattle.replica_state.specs.States.{State}
use Rattle.project_file.specs.declared.fault.LoadFault.{LoadFault}
use Rattle.project_file.specs.Projects.{project_at}
use Rattle.project_file.proofs.Files.{project_is}
use Rattle.usfm_cli.specs.Commands.{export_text}
use Rattle.usfm_cli.specs.Projects.{of_loaded}
use Rattle.usfm_cli.specs.ExecLaws.{output_of}
use Rattle.usfm_cli.specs.declared.command.Command.TheVariants.{Export}
use Rattle.usfm_cli.specs.Books.{FoldedBooksCutBack, ExportedBooksCutBack, IsWholeBook}
use Rattle.usfm_cli.specs.Streams.{unless_clash, union_in, union_with, HasBundle, book_from}
use Rattle.command_faults.specs.declared.fault.Fault.{Fault}
use Rattle.command_faults.specs.declared.fault.Fault.TheVariants.{NoBook}
use Rattle.usfm_cli.proofs.ReadTheSame.{exported}
use Rattle.usfm_cli.proofs.StreamLemmas.{stream_of}

-- the union of sets is a set
union_is_set : (held : List Operation) (sets : List (List Operation)) (union : List Operation) → IsOpSet held →
    AllByRecursion HasBundle sets → union_with held sets ≡ Ok union → IsOpSet union
union_is_set held [] union h each e = let is : held ≡ union = cc in subst IsOpSet is h
union_is_set held (set ∷ sets) union h each e =
    by (union_is_set (join held set) sets union (IsOpSet-join held set h each.0.set) each.1) (clash held set) e
  where
    by : (union_with (join held set) sets ≡ Ok union → IsOpSet union) → (o : Option Id) →
        unless_clash o (union_with (join held set) sets) ≡ Ok union → IsOpSet union
    by later None e = later e
    by later (Some id) e = absurd (cc)

-- what a stream is folded into cuts back into the picked texts of the union
pub folded_books_cut_back : FoldedBooksCutBack
folded_books_cut_back book input text bytes h = by (union_in [] input) refl h
  where
    by_book : (union : List Operation) → IsOpSet union → (b : Bool) →
        cond b (Ok (export union book)) (Err NoBook) ≡ Ok text → IsBookOf union book text
    by_book union set true h = let is : export union book ≡ text = cc in subst (IsBookOf union book) is (is_book union book set)
    by_book union set false h = absurd (cc)

    by : (u : Result (List Operation) Fault) → union_in [] input ≡ u → book_from book u ≡ Ok text →
        (union : List Operation) × (union_in [] input ≡ Ok union) × IsBookOf union book text
    by (Err fault) e h = absurd (cc)
    by (Ok union) e h =
        let stream = stream_of input union bytes e in
        let set = union_is_set [] stream.sets union (record { rising = refl; each = tt }) stream.spelled.each stream.union_is in
        (union, e, by_book union set (has_book union book) h)

-- what is exported of a project's file cuts back into the picked texts, and is the leaves of its tree
whole_book : (held : List Operation) (book text : List ℕ) → IsOpSet held → export_text held book ≡ Ok text → IsWholeBook held book text
whole_book held book text set e = by (has_book held book) e
  where
    by : (b : Bool) → cond b (Ok (export held book)) (Err NoBook) ≡ Ok text → IsWholeBook held book text
    by true h =
        let is : export held book ≡ text = cc h in
        subst (IsWholeBook held book) is (record {
          is_book = is_book held book set;
          leaves = λ records. tree_bytes (styles_in records) (export held book);
        })
    by false h = cc h

pub exported_books_cut_back : ExportedBooksCutBack
exported_books_cut_back file book text bytes h = by (project_at file) refl h
  where
    by : (r : Result State LoadFault) → project_at file ≡ r → output_of (of_loaded r (Export book)) ≡ Ok text
        → (s : State) × (project_at file ≡ Ok s) × IsWholeBook s.held book text
    by (Err fault) e f = cc f
    by (Ok s) e f =
        (s, e, whole_book s.held book text (project_is file s bytes e).valid.set (sym (exported file s book e) ∙ h))
