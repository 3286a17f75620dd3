use Rattle.team_disk.specs.declared.disk.Folder.TheVariants.{Project}
use Rattle.usfm_team.proofs.project.replace_held.Goals as goal

-- two paths that are not one are of two files
pub replace_file-replaced-requires-clause-apart : goal.replace_file-replaced-requires-clause-apart
replace_file-replaced-requires-clause-apart c = c.are_apart.ensures c.if-not-are_apart.false Project
