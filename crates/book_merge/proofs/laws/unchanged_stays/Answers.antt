use Rattle.book_merge.proofs.Unions.{unchanged_stays}
use Rattle.book_merge.proofs.laws.unchanged_stays.Goals as goal

pub returns : goal.returns
returns c = unchanged_stays
