use Rattle.std.proofs.lemmas.Result.{err_from_is_err_and}
use Rattle.usfm_cli.proofs.Asking.{not_counted}
use Rattle.usfm_cli.proofs.settling.conflict_count.Goals as goal

pub returns-in_err-replica-clause-count : goal.returns-in_err-replica-clause-count
returns-in_err-replica-clause-count c =
    let from = err_from_is_err_and c.from_residual.result c.from_residual.ensures.1 in
    rw (from.1, from.2) (λ s loads. not_counted c.args.project.now s c.args.wanted.now c.in_err-replica.field-0.0 loads
    c.in_err-replica.ensures.refused)
