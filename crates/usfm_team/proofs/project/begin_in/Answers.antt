use Rattle.team_disk.specs.declared.disk.Folder.TheVariants.{Project}
use Rattle.usfm_team.proofs.project.begin_in.Goals as goal

-- two paths that are not one are of two files
pub begin_file-made-requires-clause-apart : goal.begin_file-made-requires-clause-apart
begin_file-made-requires-clause-apart c = c.are_apart.ensures c.if-not-are_apart.false Project
