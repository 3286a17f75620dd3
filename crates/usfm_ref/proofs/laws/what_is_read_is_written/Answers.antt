use Rattle.usfm_ref.proofs.Spellings.{ref_in-some}
use Rattle.usfm_ref.proofs.laws.what_is_read_is_written.Goals as goal

pub returns : goal.returns
returns c = ref_in-some
