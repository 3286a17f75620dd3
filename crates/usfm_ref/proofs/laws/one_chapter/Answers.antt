use Rattle.usfm_ref.proofs.Readings.{one_chapter}
use Rattle.usfm_ref.proofs.laws.one_chapter.Goals as goal

pub returns : goal.returns
returns c = one_chapter
