use Rattle.usfm_cli.proofs.DeltasMade.{makes_thinned, thinned_after}
use Rattle.usfm_cli.proofs.projects.thin_in.Goals as goal

pub returns-clause-answer : goal.returns-clause-answer
returns-clause-answer c = λ _.
    makes_thinned c.args.project.now c.in_ok-judge.field-0 c.in_ok-judge.ensures.read c.in_ok-made.left_out c.in_ok-made.ensures.count
    c.in_ok-output.output.items c.in_ok-output.ensures c.in_ok-made.made.items c.in_ok-made.ensures.spelled

pub returns-clause-after : goal.returns-clause-after
returns-clause-after c = λ s loads.
    thinned_after c.args.project.now c.in_ok-judge.field-0 c.in_ok-judge.ensures.read c.in_ok-made.left_out c.in_ok-made.ensures.count
    c.in_ok-output.output.items c.in_ok-output.ensures c.in_ok-made.made.items c.in_ok-made.ensures.again s loads
