use Rattle.book_reading.proofs.ChapterLemmas.{chapters_hold}
use Rattle.book_reading.proofs.laws.chapters_hold_all.Goals as goal

pub returns : goal.returns
returns c = chapters_hold
