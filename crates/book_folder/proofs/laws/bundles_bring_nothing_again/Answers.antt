use Rattle.book_folder.proofs.BundlesAgain as proved
use Rattle.book_folder.proofs.laws.bundles_bring_nothing_again.Goals as goal

pub returns : goal.returns
returns _ = proved.bundles_bring_nothing_again
