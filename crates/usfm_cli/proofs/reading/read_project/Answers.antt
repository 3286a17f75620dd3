use Rattle.std.proofs.Common.{Global}
use Rattle.usfm_cli.specs.Commands.{any_fault}
use Rattle.usfm_cli.specs.PlainReading.{read_of}
use Rattle.usfm_cli.proofs.OverBooks.{whole_given}
use Rattle.usfm_cli.proofs.reading.read_project.Goals as goal

pub returns-clause-answer : goal.returns-clause-answer
returns-clause-answer c =
    whole_given Global c.args.project.now c.in_ok-replica.replica any_fault
    (λ held. read_of held c.args.wanted c.args.width c.args.sheet.now) c.read.result c.in_ok-replica.ensures.seen c.read.ensures
