use Rattle.std.proofs.Common.{Global}
use Rattle.usfm_cli.specs.Commands.{any_fault}
use Rattle.usfm_cli.specs.Missing.{missing_by}
use Rattle.usfm_cli.proofs.OverBooks.{whole_given}
use Rattle.usfm_cli.proofs.missing.project_missing.Goals as goal

pub returns-clause-answer : goal.returns-clause-answer
returns-clause-answer c =
    whole_given Global c.args.project.now c.in_ok-replica.replica any_fault
    (λ held. missing_by held c.args.parts.now c.args.all c.args.versification.now) c.missing_by.result c.in_ok-replica.ensures.seen
    c.missing_by.ensures
