use Rattle.book_folder.proofs.Twice.DoneSynced as proved
use Rattle.book_folder.proofs.laws.done_is_synced.Goals as goal

pub returns : goal.returns
returns _ = proved.done_is_synced
