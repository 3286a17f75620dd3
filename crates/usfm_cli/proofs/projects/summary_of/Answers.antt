use Rattle.std.proofs.Common.{Ok, sym, ap, ◌∙◌}
use Rattle.usfm_cli.proofs.DeltasMade.{makes_summary}
use Rattle.usfm_cli.proofs.projects.summary_of.Goals as goal

pub returns-clause-answer : goal.returns-clause-answer
returns-clause-answer c = λ _.
    makes_summary c.args.project.now c.in_ok-judge.field-0 c.in_ok-output.output.items c.in_ok-summary.field-0
    c.in_ok-judge.ensures.read c.in_ok-judge.ensures.spelled c.in_ok-summary.ensures.value c.in_ok-output.ensures.spelled
    ∙ ap Ok (sym c.telling.ensures)
