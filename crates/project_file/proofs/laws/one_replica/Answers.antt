use Rattle.project_file.proofs.Files.{one_replica}
use Rattle.project_file.proofs.laws.one_replica.Goals as goal

pub returns : goal.returns
returns _ s t one other short same = one_replica s t one other short same
