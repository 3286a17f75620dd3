use Rattle.std.proofs.Common.{Ok, sym, ap, ◌∙◌, arith}
use Rattle.replica_state.specs.OneBook.{of_one_book}
use Rattle.replica_state.specs.States.{State}
use Rattle.project_file.specs.Projects.{with_book}
use Rattle.project_file.proofs.Files.{read_again, read_once}
use Rattle.project_file.proofs.project.load_book.Goals as goal

pub returns-clause-loaded : goal.returns-clause-loaded
returns-clause-loaded c =
    let is = c.in_ok-of_book.ensures.held ∙ ap (λ (t : State). of_one_book t c.args.book) c.project.view_is in
    ap (with_book c.args.book) c.in_ok-project.ensures.read ∙ ap Ok (sym is)

pub returns-clause-only : goal.returns-clause-only
returns-clause-only c = λ s valid is.
    let same = read_once c.args.bytes.now _ s c.in_ok-project.ensures.read (read_again c.args.bytes.now s (omega arith) valid is) in
    c.in_ok-of_book.ensures.held ∙ ap (λ (t : State). of_one_book t c.args.book) (c.project.view_is ∙ same)
