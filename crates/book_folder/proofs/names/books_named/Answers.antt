use Rattle.std.proofs.Common.{◌∙◌, ap, sym, subst, List, ℕ}
use Rattle.std.specs.List.Sorted.{IsSorted}
use Rattle.std.specs.declared.cmp.Ordering.{Ordering}
use Rattle.std.proofs.lemmas.List.{map-id}
use Rattle.usfm_ref.specs.contracts.book.BookPartialEq.TheImpl as equal
use Rattle.usfm_ref.specs.Books.{book_cmp}
use Rattle.usfm_ref.specs.Rising.{rising}
use Rattle.usfm_ref.proofs.Once.{sorted_once}
use Rattle.usfm_ref.proofs.Orders.{book_total, book_exact}
use Rattle.book_folder.proofs.NamesOrder.{cmp_is, eq_is}
use Rattle.book_folder.proofs.names.books_named.Goals as goal

pub returns : goal.returns
returns c =
    sym (map-id c.dedup.new.self.items)
    ∙ sorted_once (λ (b : List ℕ). b) book_cmp book_total book_exact equal.ghosts.eq eq_is c.in_ok-books.books.items
    c.sort_unstable.new.self.items c.dedup.new.self.items c.sort_unstable.ensures.permutation
    (subst (λ (t : List ℕ → List ℕ → Ordering). IsSorted t c.sort_unstable.new.self.items)
    (λ i a b. cmp_is a b i) c.sort_unstable.ensures.sorted) c.dedup.ensures.filtered
    ∙ ap (rising book_cmp) (map-id c.in_ok-books.books.items ∙ c.in_ok-books.ensures)
