use Rattle.book_folder.proofs.Twice.HeldBases as proved
use Rattle.book_folder.proofs.laws.base_as_read_is_held.Goals as goal

pub returns : goal.returns
returns _ = proved.base_as_read_is_held
