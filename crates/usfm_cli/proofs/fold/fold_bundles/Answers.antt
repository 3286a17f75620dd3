use Rattle.std.proofs.Common.{Ok, Err, sym, subst, ◌∙◌}
use Rattle.std.proofs.lemmas.Bool.{false≢true}
use Rattle.std.proofs.lemmas.Result.{err_from_is_err_and}
use Rattle.op_core.specs.Export.{export}
use Rattle.replica_state.specs.States.{State}
use Rattle.usfm_export.specs.Books.{AnswersBook}
use Rattle.usfm_export.proofs.Books.{is_book}
use Rattle.usfm_cli.specs.Loops.Gathered.{held_in}
use Rattle.usfm_cli.proofs.BooksFolded.{answers_same, failed_same, written_all, not_written, not_copied}
use Rattle.usfm_cli.proofs.RefusedStreams.{refused_bundles}
use Rattle.usfm_cli.proofs.fold.fold_bundles.Goals as goal

pub returns-in_err-gathered-clause-folds : goal.returns-in_err-gathered-clause-folds
returns-in_err-gathered-clause-folds g c =
    let from = err_from_is_err_and c.from_residual.result c.from_residual.ensures.1 in
    rw (from.1, from.2) (refused_bundles c.args.book c.args.input.now (g.W.ByteSink.taken c.args.sink.now) c.in_err-gathered.field-0.0
    c.in_err-gathered.ensures.refused)

pub returns-in_err-fold-clause-folds : goal.returns-in_err-fold-clause-folds
returns-in_err-fold-clause-folds g c =
    let taken = g.W.ByteSink.taken c.args.sink.now in
    let from = err_from_is_err_and c.from_residual-in_err-fold.result c.from_residual-in_err-fold.ensures.1 in
    rw (from.1, from.2) (not_copied c.args.book c.args.input.now taken taken (held_in c.in_ok-gathered.gathered)
    c.in_ok-gathered.ensures.ok (λ none. false≢true (c.in_err-fold.ensures.none none)))

pub returns-in_err-write_book-clause-folds : goal.returns-in_err-write_book-clause-folds
returns-in_err-write_book-clause-folds g c =
    let union = held_in c.in_ok-gathered.gathered in
    let before = g.W.ByteSink.taken c.args.sink.now in
    let after = g.W.ByteSink.taken c.write_book.new.sink in
    let from = err_from_is_err_and c.from_residual-in_err-write_book.result c.from_residual-in_err-write_book.ensures.1 in
    rw (from.1, from.2) (not_written c.args.book c.args.input.now before after union c.in_ok-gathered.ensures.ok
    c.in_err-write_book.field-0.0
    (answers_same union c.args.book before after (Err c.in_err-write_book.field-0.0)
    (subst (λ (s : State). AnswersBook s.held c.args.book before after (Err c.in_err-write_book.field-0.0))
    c.in_ok-fold.ensures.held c.in_err-write_book.ensures.answers)))

pub returns-in_err-write_book-clause-write_failed : goal.returns-in_err-write_book-clause-write_failed
returns-in_err-write_book-clause-write_failed g c =
    let from = err_from_is_err_and c.from_residual-in_err-write_book.result c.from_residual-in_err-write_book.ensures.1 in
    rw (from.1, from.2) (c.in_err-write_book.ensures.failed ∙ sym (failed_same c.in_err-write_book.field-0.0 _))

pub returns-clause-folds : goal.returns-clause-folds
returns-clause-folds g c =
    let union = held_in c.in_ok-gathered.gathered in
    let before = g.W.ByteSink.taken c.args.sink.now in
    let after = g.W.ByteSink.taken c.write_book.new.sink in
    written_all c.args.book c.args.input.now before after union c.in_ok-gathered.ensures.ok (record {})
    (answers_same union c.args.book before after (Ok (record {}))
    (subst (λ (s : State). AnswersBook s.held c.args.book before after (Ok (record {})))
    c.in_ok-fold.ensures.held c.in_ok-write_book.ensures.answers))

pub returns-clause-cuts_back : goal.returns-clause-cuts_back
returns-clause-cuts_back g c =
    let union = held_in c.in_ok-gathered.gathered in
    let before = g.W.ByteSink.taken c.args.sink.now in
    let after = g.W.ByteSink.taken c.write_book.new.sink in
    record {
      union = union;
      union_is = c.in_ok-gathered.ensures.ok;
      text = export union c.args.book;
      written = (answers_same union c.args.book before after (Ok (record {}))
          (subst (λ (s : State). AnswersBook s.held c.args.book before after (Ok (record {})))
          c.in_ok-fold.ensures.held c.in_ok-write_book.ensures.answers)).1;
      is_book = is_book union c.args.book c.in_ok-gathered.ensures.set;
    }
