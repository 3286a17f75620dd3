use Rattle.conflict_answers.specs.Spelling.{first_line}
use Rattle.conflict_answers.proofs.Readers.{behind_found, behind_only}
use Rattle.conflict_answers.proofs.reading.after_first_line.Goals as goal

pub returns-clause-spelled : goal.returns-clause-spelled
returns-clause-spelled c = behind_found first_line c.args.bytes.now c.behind.result c.behind.ensures

pub returns-clause-only : goal.returns-clause-only
returns-clause-only c = behind_only first_line c.args.bytes.now c.behind.result c.behind.ensures
