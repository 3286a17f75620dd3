use Rattle.usfm_ref.proofs.Readings.{chapters_are_read}
use Rattle.usfm_ref.proofs.laws.chapters_are_read.Goals as goal

pub returns : goal.returns
returns c = chapters_are_read
