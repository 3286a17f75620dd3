use Rattle.book_folder.proofs.CutShort.Late as proved
use Rattle.book_folder.proofs.laws.cut_late_nothing_comes_in.Goals as goal

pub returns : goal.returns
returns _ = proved.cut_late_nothing_comes_in
