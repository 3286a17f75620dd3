use Rattle.usfm_cli.proofs.BooksCutBack.{exported_books_cut_back}
use Rattle.usfm_cli.proofs.laws.exported_books_cut_back.Goals as goal

pub returns : goal.returns
returns _ = exported_books_cut_back
