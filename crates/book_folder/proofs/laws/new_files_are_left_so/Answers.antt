use Rattle.book_folder.proofs.CutShort.NewFiles as proved
use Rattle.book_folder.proofs.laws.new_files_are_left_so.Goals as goal

pub returns : goal.returns
returns _ = proved.new_files_are_left_so
