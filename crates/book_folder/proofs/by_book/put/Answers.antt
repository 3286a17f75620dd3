use Rattle.std.proofs.Common.{◌≡◌, ◌∙◌, cond, Some, sym, ap, subst}
use Rattle.std.specs.BTreeMap.{get}
use Rattle.std.specs.Ordering.{is_eq}
use Rattle.usfm_ref.specs.Books.{book_cmp}
use Rattle.book_folder.proofs.FirstsLaws.{order_is}
use Rattle.book_folder.proofs.NamesOrder.{same_book-cmp}
use Rattle.book_folder.proofs.by_book.put.Goals as goal

pub returns-in-Ok-clause-puts : goal.returns-in-Ok-clause-puts
returns-in-Ok-clause-puts g c q =
    subst (λ cmp. get cmp c.insert.new.self q ≡ cond (is_eq (cmp c.args.book q)) (Some c.args.value) (get cmp c.args.by_book.now q))
    order_is (c.in-Ok.ensures.updates.0 q)
    ∙ ap (λ b. cond b (Some c.args.value) (get book_cmp c.args.by_book.now q)) (sym (same_book-cmp c.args.book q))
