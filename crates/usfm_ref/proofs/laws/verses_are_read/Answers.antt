use Rattle.usfm_ref.proofs.Readings.{verses_are_read}
use Rattle.usfm_ref.proofs.laws.verses_are_read.Goals as goal

pub returns : goal.returns
returns c = verses_are_read
