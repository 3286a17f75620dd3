use Rattle.book_folder.proofs.LostLaws as proved
use Rattle.book_folder.proofs.laws.nothing_written_is_lost.Goals as goal

pub returns : goal.returns
returns _ = proved.nothing_written_is_lost
