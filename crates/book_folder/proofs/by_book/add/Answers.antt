use Rattle.std.proofs.Common.{◌≡◌, ◌∙◌, cond, true, false, refl, Bool, ◌||◌, sym, ap, subst}
use Rattle.std.specs.BTreeSet.{contains}
use Rattle.std.specs.Ordering.{is_eq}
use Rattle.usfm_ref.specs.Books.{book_cmp}
use Rattle.book_folder.proofs.FirstsLaws.{order_is, same_bytes-sym}
use Rattle.book_folder.proofs.NamesOrder.{same_book-cmp}
use Rattle.book_folder.proofs.by_book.add.Goals as goal

either : (b c : Bool) → cond b true c ≡ (b || c)
either true c = refl
either false c = refl

pub returns-in-Ok : goal.returns-in-Ok
returns-in-Ok c q =
    subst (λ cmp. contains cmp c.insert.new.self q ≡ cond (is_eq (cmp c.args.book q)) true (contains cmp c.args.set.now q))
    order_is (c.in-Ok.ensures.updates.0 q)
    ∙ either (is_eq (book_cmp c.args.book q)) (contains book_cmp c.args.set.now q)
    ∙ ap (λ b. b || contains book_cmp c.args.set.now q) (sym (same_book-cmp c.args.book q) ∙ same_bytes-sym c.args.book q)
