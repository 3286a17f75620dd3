use Rattle.std.proofs.Common.{List, Err, IsTrue, sym, ap, subst, ◌≡◌, ◌∙◌}
use Rattle.std.proofs.lemmas.Result.{err_from_is_err_and}
use Rattle.op_core.specs.Ops.{Operation}
use Rattle.replica_state.specs.States.{State}
use Rattle.segment_history.specs.Naming.{has_books}
use Rattle.usfm_cli.specs.Copies.{as_list}
use Rattle.usfm_cli.specs.Histories.{changes_of}
use Rattle.usfm_cli.proofs.Loading.{loads_or_wants}
use Rattle.usfm_cli.proofs.LookingBack.{not_given, held_answers}
use Rattle.usfm_cli.proofs.history.project_changes.Goals as goal

pub returns-in_err-judged-clause-answer : goal.returns-in_err-judged-clause-answer
returns-in_err-judged-clause-answer c =
    let from = err_from_is_err_and c.from_residual.result c.from_residual.ensures.1 in
    rw (from.1, from.2) (not_given c.args.project.now (changes_of c.args.since.now c.args.names.now c.args.texts)
    c.in_err-judged.field-0.0 c.in_err-judged.ensures.refused)

pub returns-in_err-judged-clause-books : goal.returns-in_err-judged-clause-books
returns-in_err-judged-clause-books c = λ e s loads full.
    absurd (loads_or_wants c.args.project.now s c.in_err-judged.field-0.0 loads c.in_err-judged.ensures.refused
    (λ m. c.in_err-judged.ensures.full s loads full (ap Err m)))

pub returns-clause-answer : goal.returns-clause-answer
returns-clause-answer c =
    held_answers c.args.project.now c.in_ok-judged.judged c.held.result.now
    (changes_of c.args.since.now c.args.names.now c.args.texts) (as_list c.changes_since.result) c.in_ok-judged.ensures.read
    c.held.ensures c.changes_since.ensures.answer

pub returns-clause-books : goal.returns-clause-books
returns-clause-books c = λ e s loads full.
    let same : c.in_ok-judged.judged ≡ s = cc (sym c.in_ok-judged.ensures.read ∙ loads) in
    subst (λ (held : List Operation). IsTrue (has_books held c.args.names.now)) (c.held.ensures ∙ ap (λ (u : State). u.held) same)
    (c.changes_since.ensures.books e)
