use Rattle.std.proofs.Common.{◌≡◌, ◌∙◌, List, ℕ, Ok, Err, Result, sym, ap}
use Rattle.verse_cut.specs.Reading.{after_id, book_or_bad, book_in}
use Rattle.verse_cut.specs.declared.fault.BookFault.{BookFault}
use Rattle.verse_cut.specs.declared.fault.BookFault.TheVariants.{NoId, BadBook}
use Rattle.verse_cut.proofs.Headings.{book_reads, book_only, book_no_id, book_in-none, book_in-some}
use Rattle.verse_cut.proofs.heading.book_of.Goals as goal

none : (c : goal.In-None) → ◌≡◌ {A = Result (List ℕ) BookFault} (Err NoId) (book_in c.args.text.now)
none c = book_in-none c.args.text.now (ap after_id (sym c.as_bytes.ensures.value) ∙ c.in-None.ensures)

bad : (c : goal.In-None-leading_book) → ◌≡◌ {A = Result (List ℕ) BookFault} (Err BadBook) (book_in c.args.text.now)
bad c =
    ap book_or_bad (sym c.in-None-leading_book.is ∙ c.leading_book.ensures)
    ∙ book_in-some c.args.text.now c.in-Some.after.now (ap after_id (sym c.as_bytes.ensures.value) ∙ c.in-Some.ensures)

good : (c : goal.In-Some-leading_book) → ◌≡◌ {A = Result (List ℕ) BookFault} (Ok c.in-Some-leading_book.book) (book_in c.args.text.now)
good c =
    ap book_or_bad (sym c.in-Some-leading_book.is ∙ c.leading_book.ensures)
    ∙ book_in-some c.args.text.now c.in-Some.after.now (ap after_id (sym c.as_bytes.ensures.value) ∙ c.in-Some.ensures)

pub returns-in-None-clause-only : goal.returns-in-None-clause-only
returns-in-None-clause-only c = book_only c.args.text.now (Err NoId) (none c)

pub returns-in-None-clause-no_id : goal.returns-in-None-clause-no_id
returns-in-None-clause-no_id c = book_no_id c.args.text.now (Err NoId) (none c)

pub returns-in-None-clause-value : goal.returns-in-None-clause-value
returns-in-None-clause-value c = none c

pub returns-in-None-leading_book-clause-only : goal.returns-in-None-leading_book-clause-only
returns-in-None-leading_book-clause-only c = book_only c.args.text.now (Err BadBook) (bad c)

pub returns-in-None-leading_book-clause-no_id : goal.returns-in-None-leading_book-clause-no_id
returns-in-None-leading_book-clause-no_id c = book_no_id c.args.text.now (Err BadBook) (bad c)

pub returns-in-None-leading_book-clause-value : goal.returns-in-None-leading_book-clause-value
returns-in-None-leading_book-clause-value c = bad c

pub returns-in-Some-leading_book-clause-reads : goal.returns-in-Some-leading_book-clause-reads
returns-in-Some-leading_book-clause-reads c = book_reads c.args.text.now (Ok c.in-Some-leading_book.book) (good c)

pub returns-in-Some-leading_book-clause-only : goal.returns-in-Some-leading_book-clause-only
returns-in-Some-leading_book-clause-only c = book_only c.args.text.now (Ok c.in-Some-leading_book.book) (good c)

pub returns-in-Some-leading_book-clause-no_id : goal.returns-in-Some-leading_book-clause-no_id
returns-in-Some-leading_book-clause-no_id c = book_no_id c.args.text.now (Ok c.in-Some-leading_book.book) (good c)

pub returns-in-Some-leading_book-clause-value : goal.returns-in-Some-leading_book-clause-value
returns-in-Some-leading_book-clause-value c = good c
