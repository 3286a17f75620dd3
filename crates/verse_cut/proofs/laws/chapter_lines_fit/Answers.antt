use Rattle.verse_cut.proofs.ChapterLines.{chapter_lines_fit}
use Rattle.verse_cut.proofs.laws.chapter_lines_fit.Goals as goal

pub returns : goal.returns
returns c = chapter_lines_fit
