use Rattle.book_folder.proofs.CutShort.CutLaws as proved
use Rattle.book_folder.proofs.laws.cut_short_is_known.Goals as goal

pub returns : goal.returns
returns _ = proved.cut_short_is_known
