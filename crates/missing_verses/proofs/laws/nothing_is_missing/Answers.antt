use Rattle.missing_verses.proofs.Whole as proved
use Rattle.missing_verses.proofs.laws.nothing_is_missing.Goals as goal

pub returns : goal.returns
returns _ = proved.nothing_is_missing
