use Rattle.verse_cut.proofs.Steps.{pieces_start}
use Rattle.verse_cut.proofs.cutter.Pieces.new.Goals as goal

pub returns : goal.returns
returns c = rw c.chapter_head.ensures (pieces_start c.args.text.now)
