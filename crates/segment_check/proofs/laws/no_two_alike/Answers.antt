use Rattle.segment_check.proofs.FindingLaws.{no_two_alike}
use Rattle.segment_check.proofs.laws.no_two_alike.Goals as goal

pub returns : goal.returns
returns c = no_two_alike
