use Rattle.segment_history.proofs.HadBack.{restored_is_alone}
use Rattle.segment_history.proofs.laws.restores.restored_is_alone.Goals as goal

pub returns : goal.returns
returns c = restored_is_alone
