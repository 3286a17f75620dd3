use Rattle.book_folder.proofs.SettledBooks as proved
use Rattle.book_folder.proofs.laws.settled_book_by_book.Goals as goal

pub returns : goal.returns
returns _ = proved.settled_book_by_book
