-- What replicas that accepted the same operations write.
use Rattle.std.proofs.Common.{◌≡◌, ℕ, true, List, [], ◌∷◌, Option, None, Some, Ok, refl, sym, ap, subst, ◌∙◌}
use Rattle.std.specs.List.{AllByRecursion}
use Rattle.op_core.specs.Ids.{Id}
use Rattle.op_core.specs.Ops.{Operation}
use Rattle.op_core.specs.Sets.{rises, clash, join}
use Rattle.op_core.specs.Thinned.{is_legal}
use Rattle.op_core.proofs.Sets.Groupings.{skeleton_exports}
use Rattle.op_core.proofs.Sets.Legal.{join_legal}
use Rattle.op_core.proofs.Sets.Union.{rises-join, agree_from_no_clash}
use Rattle.project_file.proofs.Files.{project_is}
use Rattle.conflict_report.specs.Reports.{report}
use Rattle.conflict_report.proofs.SameReports.{skeleton_reports}
use Rattle.usfm_cli.specs.Commands.{export_text}
use Rattle.usfm_cli.specs.Streams.{unless_clash, union_with, HasBundle, book_from}
use Rattle.usfm_cli.specs.Headline.{Replica, Project, Stream, ProjectHolds, Accepted, book_of}
use Rattle.usfm_cli.specs.Headline.{SameOperationsSameBytes, SameOperationsSameReport}
use Rattle.usfm_cli.specs.Projects.{executed, file_after}
use Rattle.usfm_cli.specs.ExecLaws.{output_of}
use Rattle.usfm_cli.specs.declared.command.Command.{Command}
use Rattle.usfm_cli.specs.declared.command.Command.TheVariants.{Report}
use Rattle.usfm_cli.proofs.ReadTheSame.{exported, reported}
use Rattle.usfm_cli.proofs.ReadAlike.{texts_alike}
use Rattle.usfm_cli.proofs.StreamLemmas.{stream_of}

-- a legal set that rises
record IsLegal (held : List Operation) : Type 0 where
  rising : rises held ≡ true
  legal : is_legal held ≡ true

-- the union of legal sets is legal
union_is_legal : (held : List Operation) (sets : List (List Operation)) (union : List Operation) → IsLegal held
    → AllByRecursion HasBundle sets → union_with held sets ≡ Ok union → IsLegal union
union_is_legal held [] union h each e = let is : held ≡ union = cc e in subst IsLegal is h
union_is_legal held (set ∷ sets) union h each e =
    by (λ legal e. union_is_legal (join held set) sets union legal each.1 e) (clash held set) refl e
  where
    by : (IsLegal (join held set) → union_with (join held set) sets ≡ Ok union → IsLegal union) → (c : Option Id)
        → clash held set ≡ c → unless_clash c (union_with (join held set) sets) ≡ Ok union → IsLegal union
    by later (Some id) f e = cc e
    by later None f e = later (record {
      rising = rises-join held set h.rising;
      legal = join_legal held set h.rising each.0.set.rising h.legal each.0.legal (agree_from_no_clash held set f);
    }) e

-- what is accepted is legal
accepted_is_legal : (r : Replica) (held : List Operation) → Accepted r held → IsLegal held
accepted_is_legal (Project file commands) held a =
    let valid = (project_is (file_after file commands) a.state a.bytes a.reads).valid in
    subst IsLegal a.is_held (record { rising = valid.set.rising; legal = valid.legal })
accepted_is_legal (Stream input) held a =
    let s = stream_of input held a.bytes a.union in
    union_is_legal [] s.sets held (record { rising = refl; legal = refl }) s.spelled.each s.union_is

-- a replica writes the book of what it accepted
book_is : (r : Replica) (held : List Operation) → Accepted r held → (book : List ℕ) → book_of r book ≡ export_text held book
book_is (Project file commands) held a book =
    exported (file_after file commands) a.state book a.reads ∙ ap (λ (ops : List Operation). export_text ops book) a.is_held
book_is (Stream input) held a book = ap (book_from book) a.union

-- replicas that accepted the same operations write the same bytes of every book
pub same_bytes : SameOperationsSameBytes
same_bytes one other held also a b e c book =
    let x = accepted_is_legal one held a in
    let y = accepted_is_legal other also b in
    book_is one held a book
    ∙ texts_alike held also book e (skeleton_exports held also book x.rising y.rising x.legal y.legal c e)
    ∙ sym (book_is other also b book)

report_is : (file : List ℕ) (commands : List Command) (held : List Operation) (a : ProjectHolds file commands held)
    → output_of (executed (file_after file commands) Report) ≡ Ok (report held)
report_is file commands held a =
    reported (file_after file commands) a.state a.reads ∙ ap (λ (ops : List Operation). Ok (report ops)) a.is_held

-- the projects among them write the same report
pub same_report : SameOperationsSameReport
same_report file other commands others held also a b e c =
    let x = accepted_is_legal (Project file commands) held a in
    let y = accepted_is_legal (Project other others) also b in
    report_is file commands held a
    ∙ ap Ok (skeleton_reports held also x.rising y.rising x.legal y.legal c e)
    ∙ sym (report_is other others also b)
