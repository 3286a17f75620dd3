use Rattle.book_folder.proofs.SeenLaws as proved
use Rattle.book_folder.proofs.laws.nothing_unseen_is_replaced.Goals as goal

pub returns : goal.returns
returns _ = proved.nothing_unseen_is_replaced
