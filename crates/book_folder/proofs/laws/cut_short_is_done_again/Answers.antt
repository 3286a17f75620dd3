use Rattle.book_folder.proofs.CutShort.DoneAgain as proved
use Rattle.book_folder.proofs.laws.cut_short_is_done_again.Goals as goal

pub returns : goal.returns
returns _ = proved.cut_short_is_done_again
