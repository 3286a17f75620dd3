use Rattle.book_folder.proofs.Twice.HeldBases as proved
use Rattle.book_folder.proofs.laws.base_makes_files.Goals as goal

pub returns : goal.returns
returns _ = proved.base_makes_files
