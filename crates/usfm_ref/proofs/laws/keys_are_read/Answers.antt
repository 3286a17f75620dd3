use Rattle.usfm_ref.proofs.Spellings.{key_of_is}
use Rattle.usfm_ref.proofs.laws.keys_are_read.Goals as goal

pub returns : goal.returns
returns c = key_of_is
