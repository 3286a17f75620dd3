use Rattle.book_folder.proofs.CutShort.RecoveredAgain as proved
use Rattle.book_folder.proofs.laws.recovered_comes_in_again.Goals as goal

pub returns : goal.returns
returns _ = proved.recovered_comes_in_again
