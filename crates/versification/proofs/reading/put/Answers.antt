use Rattle.std.proofs.Common.{◌≡◌, cond, Some, subst}
use Rattle.std.specs.BTreeMap.{get}
use Rattle.std.specs.Ordering.{is_eq}
use Rattle.versification.proofs.Orders.{books_order, puts_verses}
use Rattle.versification.proofs.reading.put.Goals as goal

pub returns-in-Ok : goal.returns-in-Ok
returns-in-Ok c =
    puts_verses c.args.books.now c.insert.new.self c.args.book c.args.verses
    (λ q. subst (λ cmp. get cmp c.insert.new.self q ≡ cond (is_eq (cmp c.args.book q)) (Some c.args.verses) (get cmp c.args.books.now q))
    books_order (c.in-Ok.ensures.updates.0 q))
