use Rattle.book_folder.proofs.Twice.TwiceLaws as proved
use Rattle.book_folder.proofs.laws.twice_is_once.Goals as goal

pub returns : goal.returns
returns _ = proved.twice_is_once
