use Rattle.book_folder.proofs.CutShort.Again as proved
use Rattle.book_folder.proofs.laws.cut_early_is_done_again.Goals as goal

pub returns : goal.returns
returns _ = proved.cut_early_is_done_again
