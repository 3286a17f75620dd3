use Rattle.std.proofs.Common.{Ok, sym, ap, ◌∙◌}
use Rattle.usfm_cli.proofs.DeltasMade.{makes_bundle}
use Rattle.usfm_cli.proofs.projects.send_of.Goals as goal

pub returns-clause-answer : goal.returns-clause-answer
returns-clause-answer c = λ _.
    makes_bundle c.args.project.now c.in_ok-judge.field-0 c.in_ok-output.output.items c.in_ok-judge.ensures.read
    c.in_ok-judge.ensures.spelled (c.in_ok-output.ensures.items_if_clones_equal (λ x y e. e) ∙ c.bundle.ensures)
    ∙ ap Ok (sym c.telling.ensures)
