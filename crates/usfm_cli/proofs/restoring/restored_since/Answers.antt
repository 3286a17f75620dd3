use Rattle.std.proofs.lemmas.Result.{err_from_is_err_and}
use Rattle.usfm_cli.specs.Copies.{as_list}
use Rattle.usfm_cli.specs.Restorings.{restored_since}
use Rattle.usfm_cli.proofs.LookingBack.{not_given, held_answers}
use Rattle.usfm_cli.proofs.restoring.restored_since.Goals as goal

pub returns-in_err-judged-clause-answer : goal.returns-in_err-judged-clause-answer
returns-in_err-judged-clause-answer c =
    let from = err_from_is_err_and c.from_residual.result c.from_residual.ensures.1 in
    rw (from.1, from.2) (not_given c.args.project.now (restored_since c.args.since.now c.args.names.now) c.in_err-judged.field-0.0
    c.in_err-judged.ensures.refused)

pub returns-clause-answer : goal.returns-clause-answer
returns-clause-answer c =
    held_answers c.args.project.now c.in_ok-judged.judged c.held.result.now (restored_since c.args.since.now c.args.names.now)
    (as_list c.restored_in.result) c.in_ok-judged.ensures.read c.held.ensures c.restored_in.ensures
