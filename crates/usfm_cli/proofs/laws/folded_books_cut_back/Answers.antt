use Rattle.usfm_cli.proofs.BooksCutBack.{folded_books_cut_back}
use Rattle.usfm_cli.proofs.laws.folded_books_cut_back.Goals as goal

pub returns : goal.returns
returns c = folded_books_cut_back
