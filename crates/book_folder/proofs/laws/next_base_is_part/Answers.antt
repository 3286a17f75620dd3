use Rattle.book_folder.proofs.Twice.HeldBases as proved
use Rattle.book_folder.proofs.laws.next_base_is_part.Goals as goal

pub returns : goal.returns
returns _ = proved.next_base_is_part
