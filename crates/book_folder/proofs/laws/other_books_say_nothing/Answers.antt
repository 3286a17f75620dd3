use Rattle.book_folder.proofs.OwnBookLaws as proved
use Rattle.book_folder.proofs.laws.other_books_say_nothing.Goals as goal

pub returns : goal.returns
returns _ = proved.other_books_say_nothing
