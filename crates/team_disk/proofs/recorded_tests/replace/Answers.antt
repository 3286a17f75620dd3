use Rattle.team_disk.specs.declared.disk.Folder.TheVariants.{Project}
use Rattle.team_disk.proofs.recorded_tests.replace.Goals as goal

pub replace_file-requires-clause-apart : goal.replace_file-requires-clause-apart
replace_file-requires-clause-apart c = c.are_apart.ensures c.if-not-are_apart.false Project
