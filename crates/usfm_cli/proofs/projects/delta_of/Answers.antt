use Rattle.std.proofs.Common.{Ok, Err, sym, ap, ◌∙◌}
use Rattle.std.proofs.lemmas.Result.{err_from_is_err_and}
use Rattle.bundle_codec.specs.SummaryReading.{read_summary}
use Rattle.usfm_cli.proofs.DeltasMade.{makes_delta, summary_refused, summary_wants}
use Rattle.usfm_cli.proofs.Loading.{loads_or_wants}
use Rattle.usfm_cli.proofs.projects.delta_of.Goals as goal

pub returns-in_err-judged-clause-memory : goal.returns-in_err-judged-clause-memory
returns-in_err-judged-clause-memory c = λ e s loads full.
    absurd (loads_or_wants c.args.project.now s c.in_err-judged.field-0.0 loads c.in_err-judged.ensures.refused
    (λ m. c.in_err-judged.ensures.full s loads full (ap Err m)))

pub returns-in_err-summary-clause-answer : goal.returns-in_err-summary-clause-answer
returns-in_err-summary-clause-answer c =
    let from = err_from_is_err_and c.from_residual-in_err-summary.result c.from_residual-in_err-summary.ensures.1 in
    rw (from.1, from.2) (λ e. summary_refused c.args.project.now c.args.summary.now c.in_ok-judged.judged c.in_ok-judged.ensures.read
    c.in_err-summary.field-0.0 c.in_err-summary.ensures.none (λ m. e (ap Err m)))

pub returns-in_err-summary-clause-memory : goal.returns-in_err-summary-clause-memory
returns-in_err-summary-clause-memory c =
    let from = err_from_is_err_and c.from_residual-in_err-summary.result c.from_residual-in_err-summary.ensures.1 in
    rw (from.1, from.2) (λ e s loads full. summary_wants s (read_summary c.args.summary.now) c.in_err-summary.field-0.0
    c.in_err-summary.ensures.none (cc e))

pub returns-clause-answer : goal.returns-clause-answer
returns-clause-answer c = λ _.
    makes_delta c.args.project.now c.args.summary.now c.in_ok-judged.judged c.in_ok-judged.ensures.read c.in_ok-summary.summary
    c.in_ok-output.output.items c.in_ok-summary.ensures.exact c.in_ok-judged.ensures.spelled c.in_ok-output.ensures.spelled
    ∙ ap Ok (sym c.telling.ensures)
