use Rattle.segment_check.proofs.FoundLaw.{findings_are_read}
use Rattle.segment_check.proofs.laws.findings_are_read.Goals as goal

pub returns : goal.returns
returns c = findings_are_read
