use Rattle.usfm_cli.proofs.StreamLemmas.{same_books}
use Rattle.usfm_cli.proofs.laws.same_operations_same_books.Goals as goal

pub returns : goal.returns
returns _ = same_books
