use Rattle.book_folder.proofs.ShownLaws as proved
use Rattle.book_folder.proofs.laws.written_is_shown.Goals as goal

pub returns : goal.returns
returns _ = proved.written_is_shown
