-- The order of books, as `sort_unstable` and `dedup` go by it.
use Rattle.std.proofs.Common.{rules, ◌≡◌, ◌∙◌, ap, subst, true, List, ℕ}
use Rattle.std.specs.Cmp.{both_ways, tied_itself, Equal-is}
use Rattle.std.specs.Ordering.{is_eq}
use Rattle.usfm_ref.specs.contracts.book.BookOrd.TheImpl as ord
use Rattle.usfm_ref.specs.contracts.book.BookPartialEq.TheImpl as equal
use Rattle.usfm_ref.specs.Books.{book_cmp, same_bytes}
use Rattle.usfm_ref.proofs.Orders.{book_total, book_exact, same_bytes-is, same_bytes-refl}

-- `cmp` of books is their order
pub cmp_is : (a b : List ℕ) → ord.ghosts.cmp a b ≡ book_cmp a b
cmp_is a b = search rules

-- books are one where their order does not tell them apart
pub same_book-cmp : (a b : List ℕ) → same_bytes a b ≡ is_eq (book_cmp a b)
same_book-cmp a b = both_ways (same_bytes a b) (is_eq (book_cmp a b))
    (λ h. subst (λ (c : List ℕ). is_eq (book_cmp a c) ≡ true) (same_bytes-is a b h) (ap is_eq (tied_itself book_total a)))
    (λ h. subst (λ (c : List ℕ). same_bytes a c ≡ true) (book_exact a b ((Equal-is _).0 h)) (same_bytes-refl a))

-- `==` of books
pub eq_is : (a b : List ℕ) → equal.ghosts.eq a b ≡ is_eq (book_cmp a b)
eq_is a b = (let e : equal.ghosts.eq a b ≡ same_bytes a b = search rules in e) ∙ same_book-cmp a b
