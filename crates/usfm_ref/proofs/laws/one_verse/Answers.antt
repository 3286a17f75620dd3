use Rattle.usfm_ref.proofs.Readings.{one_verse}
use Rattle.usfm_ref.proofs.laws.one_verse.Goals as goal

pub returns : goal.returns
returns c = one_verse
