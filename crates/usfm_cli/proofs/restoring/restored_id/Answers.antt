use Rattle.std.proofs.Common.{Ok, Err}
use Rattle.std.proofs.lemmas.Result.{err_from_is_err_and}
use Rattle.command_faults.specs.Faults.{of_restoring}
use Rattle.usfm_cli.specs.Restorings.{restored_id}
use Rattle.usfm_cli.proofs.LookingBack.{not_given, held_answers, restored_told, restored_refused}
use Rattle.usfm_cli.proofs.restoring.restored_id.Goals as goal

pub returns-in_err-judged-clause-answer : goal.returns-in_err-judged-clause-answer
returns-in_err-judged-clause-answer c =
    let from = err_from_is_err_and c.from_residual.result c.from_residual.ensures.1 in
    rw (from.1, from.2) (not_given c.args.project.now (restored_id c.args.id) c.in_err-judged.field-0.0 c.in_err-judged.ensures.refused)

pub returns-in_err-restored_id-clause-answer : goal.returns-in_err-restored_id-clause-answer
returns-in_err-restored_id-clause-answer c =
    let from = err_from_is_err_and c.from_residual-in_err-restored_id.result c.from_residual-in_err-restored_id.ensures.1 in
    rw (from.1, from.2) (held_answers c.args.project.now c.in_ok-judged.judged c.held.result.now (restored_id c.args.id)
    (Err (of_restoring c.in_err-restored_id.field-0.0)) c.in_ok-judged.ensures.read c.held.ensures
    (restored_refused c.args.id c.held.result.now c.in_err-restored_id.field-0.0 c.in_err-restored_id.ensures.refused))

pub returns-clause-answer : goal.returns-clause-answer
returns-clause-answer c =
    held_answers c.args.project.now c.in_ok-judged.judged c.held.result.now (restored_id c.args.id)
    (Ok c.in_ok-restored_id.field-0.items) c.in_ok-judged.ensures.read c.held.ensures
    (λ other. restored_told c.args.id c.held.result.now c.in_ok-restored_id.field-0.items c.in_ok-restored_id.ensures.edit
    c.in_ok-restored_id.ensures.there)
