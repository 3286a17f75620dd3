use Rattle.book_folder.proofs.CutShort.ReadAgain as proved
use Rattle.book_folder.proofs.laws.read_again_nothing_comes_in.Goals as goal

pub returns : goal.returns
returns _ = proved.read_again_nothing_comes_in
