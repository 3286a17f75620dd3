use Rattle.std.proofs.Common.{ap, ◌∙◌}
use Rattle.usfm_ref.specs.Books.{book_cmp}
use Rattle.usfm_ref.specs.Rising.{rising}
use Rattle.usfm_cli.proofs.BooksOnce.{books_once}
use Rattle.usfm_cli.proofs.missing.Look.books.Goals as goal

pub returns : goal.returns
returns c =
    books_once c.in_ok-books.books.items c.sort_unstable.new.self.items c.dedup.new.self.items c.sort_unstable.ensures.permutation
    c.sort_unstable.ensures.sorted c.dedup.ensures.filtered
    ∙ ap (rising book_cmp) c.in_ok-books.ensures
