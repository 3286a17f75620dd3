use Rattle.usfm_export.proofs.Books.{is_book}
use Rattle.usfm_export.proofs.export.write_book.Goals as goal

pub returns-clause-is_book : goal.returns-clause-is_book
returns-clause-is_book g c = is_book c.args.replica.now.held c.args.book c.has_book.ensures.set
