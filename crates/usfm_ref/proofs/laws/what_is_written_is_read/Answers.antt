use Rattle.usfm_ref.proofs.Spellings.{ref_in-of}
use Rattle.usfm_ref.proofs.laws.what_is_written_is_read.Goals as goal

pub returns : goal.returns
returns c = ref_in-of
