use Rattle.segment_history.proofs.HadBack.{others_stay}
use Rattle.segment_history.proofs.laws.restores.others_stay.Goals as goal

pub returns : goal.returns
returns c = others_stay
