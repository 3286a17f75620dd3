use Rattle.std.proofs.Common.{sym}
use Rattle.project_file.proofs.Files.{project_is}
use Rattle.project_file.proofs.laws.loaded_is_saved.Goals as goal

pub returns : goal.returns
returns _ bytes s fit read = let file = project_is bytes s fit read in (file.valid, sym file.spelled)
