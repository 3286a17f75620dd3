use Rattle.usfm_cli.proofs.InTurn.{accepted_is_file_after}
use Rattle.usfm_cli.proofs.laws.turns.accepted_is_file_after.Goals as goal

pub returns : goal.returns
returns _ = accepted_is_file_after
