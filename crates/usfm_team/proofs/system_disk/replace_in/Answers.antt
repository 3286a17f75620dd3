use Rattle.usfm_team.proofs.system_disk.replace_in.Goals as goal

-- two paths that are not one are of two files
pub replace_file-requires-clause-apart : goal.replace_file-requires-clause-apart
replace_file-requires-clause-apart c = c.are_apart.ensures c.if-not-are_apart.false c.args.which
