use Rattle.book_folder.proofs.LineLaws as proved
use Rattle.book_folder.proofs.laws.line_ends_say_nothing.Goals as goal

pub returns : goal.returns
returns _ = proved.line_ends_say_nothing
