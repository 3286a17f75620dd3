use Rattle.book_reading.proofs.BlockLemmas.{blocks_hold}
use Rattle.book_reading.proofs.laws.blocks_hold_all.Goals as goal

pub returns : goal.returns
returns c = blocks_hold
