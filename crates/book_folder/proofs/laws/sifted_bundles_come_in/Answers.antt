use Rattle.book_folder.proofs.SiftedComeIn as proved
use Rattle.book_folder.proofs.laws.sifted_bundles_come_in.Goals as goal

pub returns : goal.returns
returns _ = proved.sifted_bundles_come_in
