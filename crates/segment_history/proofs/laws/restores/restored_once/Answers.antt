use Rattle.segment_history.proofs.HadBack.{restored_once}
use Rattle.segment_history.proofs.laws.restores.restored_once.Goals as goal

pub returns : goal.returns
returns c = restored_once
