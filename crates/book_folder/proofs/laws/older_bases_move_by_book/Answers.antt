use Rattle.book_folder.proofs.SettledBooks as proved
use Rattle.book_folder.proofs.laws.older_bases_move_by_book.Goals as goal

pub returns : goal.returns
returns _ = proved.older_bases_move_by_book
