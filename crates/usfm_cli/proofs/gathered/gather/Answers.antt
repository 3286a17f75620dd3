use Rattle.std.proofs.Common.{List, Err, ap, ◌∙◌}
use Rattle.op_core.specs.Ops.{Operation}
use Rattle.op_core.specs.Sets.{join}
use Rattle.op_core.proofs.Sets.Fronts.{join_none}
use Rattle.usfm_cli.proofs.GatheredSets.{none_refused}
use Rattle.usfm_cli.proofs.gathered.gather.Goals as goal

pub returns-in-Ok-clause-ok : goal.returns-in-Ok-clause-ok
returns-in-Ok-clause-ok c =
    c.in-Ok.ensures.ok ∙ ap (λ (ops : List Operation). join ops c.args.first.now) c.new.ensures
    ∙ join_none c.args.first.now c.ops.ensures.set.rising

pub returns-in-Err-clause-none : goal.returns-in-Err-clause-none
returns-in-Err-clause-none c = λ none.
    absurd (none_refused c.new.result c.args.first.now c.in-Err.field-0 c.new.ensures none c.in-Err.ensures.refused
    (λ lacks m. c.in-Err.ensures.clash lacks (ap Err m)))
