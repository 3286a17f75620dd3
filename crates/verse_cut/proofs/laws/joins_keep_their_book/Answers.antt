use Rattle.verse_cut.proofs.BookLaws.{joins_keep_their_book}
use Rattle.verse_cut.proofs.laws.joins_keep_their_book.Goals as goal

pub returns : goal.returns
returns c = joins_keep_their_book
