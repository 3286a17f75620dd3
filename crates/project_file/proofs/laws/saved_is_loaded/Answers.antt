use Rattle.project_file.proofs.Files.{project_again}
use Rattle.project_file.proofs.laws.saved_is_loaded.Goals as goal

pub returns : goal.returns
returns _ s valid short = project_again s valid short
