use Rattle.usfm_cli.proofs.ReadAlike.{same_ids_fold}
use Rattle.usfm_cli.proofs.laws.same_ids_same_books.Goals as goal

pub returns : goal.returns
returns _ = λ family sets others input other s t of others_of ids. same_ids_fold family sets others input other s t of others_of ids
