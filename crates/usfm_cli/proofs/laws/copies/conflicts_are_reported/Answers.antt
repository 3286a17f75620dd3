use Rattle.usfm_cli.proofs.ConflictsListed.{listed_in}
use Rattle.usfm_cli.proofs.laws.copies.conflicts_are_reported.Goals as goal

pub returns : goal.returns
returns _ = listed_in
