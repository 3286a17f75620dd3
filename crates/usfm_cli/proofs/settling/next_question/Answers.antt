use Rattle.std.proofs.Common.{◌≡◌, Err, sym, ap, subst, ◌∙◌}
use Rattle.std.proofs.lemmas.Result.{err_from_is_err_and}
use Rattle.replica_state.specs.States.{State}
use Rattle.command_faults.specs.Faults.{of_settling}
use Rattle.usfm_cli.specs.Settling.{AsksOf}
use Rattle.usfm_cli.proofs.Asking.{not_read, not_asked}
use Rattle.usfm_cli.proofs.settling.next_question.Goals as goal

pub returns-in_err-replica-clause-asks : goal.returns-in_err-replica-clause-asks
returns-in_err-replica-clause-asks c =
    let from = err_from_is_err_and c.from_residual.result c.from_residual.ensures.1 in
    rw (from.1, from.2) (λ s loads. not_read c.args.wanted.now c.args.passed c.args.manner c.args.project.now s
    c.in_err-replica.field-0.0 loads c.in_err-replica.ensures.refused
    (λ none m. c.in_err-replica.ensures.nothing_held s loads none (ap Err m)))

pub returns-in_err-next_question-clause-asks : goal.returns-in_err-next_question-clause-asks
returns-in_err-next_question-clause-asks c =
    let from = err_from_is_err_and c.from_residual-in_err-next_question.result c.from_residual-in_err-next_question.ensures.1 in
    rw (from.1, from.2) (λ s loads.
    let same : c.in_ok-replica.replica ≡ s = cc (sym c.in_ok-replica.ensures.loaded ∙ loads) in
    subst (λ (t : State). AsksOf t.held c.args.wanted.now c.args.passed c.args.manner (Err (of_settling c.in_err-next_question.field-0.0)))
    same (not_asked c.args.wanted.now c.args.passed c.args.manner c.in_ok-replica.replica.held c.in_err-next_question.field-0.0
    c.in_err-next_question.ensures))
