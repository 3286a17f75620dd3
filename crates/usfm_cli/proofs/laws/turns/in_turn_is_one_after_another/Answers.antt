use Rattle.usfm_cli.proofs.InTurn.{in_turn_is_one_after_another}
use Rattle.usfm_cli.proofs.laws.turns.in_turn_is_one_after_another.Goals as goal

pub returns : goal.returns
returns _ = in_turn_is_one_after_another
