use Rattle.segment_history.proofs.HadBack.{restored_over_shown}
use Rattle.segment_history.proofs.laws.restores.restored_over_shown.Goals as goal

pub returns : goal.returns
returns c = restored_over_shown
