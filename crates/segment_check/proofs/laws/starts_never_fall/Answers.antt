use Rattle.segment_check.proofs.FindingLaws.{starts_never_fall}
use Rattle.segment_check.proofs.laws.starts_never_fall.Goals as goal

pub returns : goal.returns
returns c = starts_never_fall
