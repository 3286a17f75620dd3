-- Books, each once and in their order, as `sort_unstable` and `dedup` make them.
use Rattle.std.proofs.Common.{rules, ◌≡◌, ◌∙◌, ap, sym, subst, true, List, [], ℕ}
use Rattle.std.specs.Cmp.{both_ways, tied_itself, Equal-is}
use Rattle.std.specs.List.Retain.{IsFiltered, DiffersFromLast}
use Rattle.std.specs.List.Sorted.{IsSorted, IsPermutation}
use Rattle.std.specs.Ordering.{is_eq}
use Rattle.std.specs.declared.cmp.Ordering.{Ordering}
use Rattle.std.proofs.lemmas.List.{map-id}
use Rattle.usfm_ref.specs.contracts.book.BookOrd.TheImpl as ord
use Rattle.usfm_ref.specs.contracts.book.BookPartialEq.TheImpl as equal
use Rattle.usfm_ref.specs.Books.{book_cmp, same_bytes}
use Rattle.usfm_ref.specs.Rising.{rising}
use Rattle.usfm_ref.proofs.Once.{sorted_once}
use Rattle.usfm_ref.proofs.Orders.{book_total, book_exact, same_bytes-is, same_bytes-refl}

-- `cmp` of books is their order
cmp_is : (a b : List ℕ) → ord.ghosts.cmp a b ≡ book_cmp a b
cmp_is a b = search rules

-- `==` of books is that their order does not tell them apart
eq_is : (a b : List ℕ) → equal.ghosts.eq a b ≡ is_eq (book_cmp a b)
eq_is a b =
    (let e : equal.ghosts.eq a b ≡ same_bytes a b = search rules in e)
    ∙ both_ways (same_bytes a b) (is_eq (book_cmp a b))
    (λ h. subst (λ (c : List ℕ). is_eq (book_cmp a c) ≡ true) (same_bytes-is a b h) (ap is_eq (tied_itself book_total a)))
    (λ h. subst (λ (c : List ℕ). same_bytes a c ≡ true) (book_exact a b ((Equal-is _).0 h)) (same_bytes-refl a))

pub books_once : (items sorted once : List (List ℕ)) → IsPermutation items sorted → IsSorted ord.ghosts.cmp sorted
    → IsFiltered (DiffersFromLast equal.ghosts.eq) [] sorted once → once ≡ rising book_cmp items
books_once items sorted once p s f =
    sym (map-id once)
    ∙ sorted_once (λ (b : List ℕ). b) book_cmp book_total book_exact equal.ghosts.eq eq_is items sorted once p
    (subst (λ (t : List ℕ → List ℕ → Ordering). IsSorted t sorted) (λ i a b. cmp_is a b i) s) f
    ∙ ap (rising book_cmp) (map-id items)
