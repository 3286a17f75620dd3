use Rattle.team_disk.specs.declared.disk.Folder.TheVariants.{Project}
use Rattle.team_disk.proofs.recorded_tests.begin.Goals as goal

pub begin_file-requires-clause-apart : goal.begin_file-requires-clause-apart
begin_file-requires-clause-apart c = c.are_apart.ensures c.if-not-are_apart.false Project
