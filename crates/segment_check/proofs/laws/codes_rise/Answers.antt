use Rattle.segment_check.proofs.FindingLaws.{codes_rise}
use Rattle.segment_check.proofs.laws.codes_rise.Goals as goal

pub returns : goal.returns
returns c = codes_rise
