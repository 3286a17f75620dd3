use Rattle.book_folder.proofs.CutShort.OnDisk as proved
use Rattle.book_folder.proofs.laws.cut_short_makes_the_same.Goals as goal

pub returns : goal.returns
returns _ = proved.cut_short_makes_the_same
