use Rattle.segment_check.proofs.DepthLaw.{leaves_are_too_deep}
use Rattle.segment_check.proofs.laws.leaves_are_too_deep.Goals as goal

pub returns : goal.returns
returns c = leaves_are_too_deep
