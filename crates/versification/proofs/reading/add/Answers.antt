use Rattle.std.proofs.Common.{◌≡◌, cond, true, subst}
use Rattle.std.specs.BTreeSet.{contains}
use Rattle.std.specs.Ordering.{is_eq}
use Rattle.versification.proofs.Orders.{segments_order, adds_verse}
use Rattle.versification.proofs.reading.add.Goals as goal

pub returns-in-Ok : goal.returns-in-Ok
returns-in-Ok c =
    adds_verse c.args.left_out.now c.insert.new.self c.args.segment
    (λ q. subst (λ cmp. contains cmp c.insert.new.self q ≡ cond (is_eq (cmp c.args.segment q)) true (contains cmp c.args.left_out.now q))
    segments_order (c.in-Ok.ensures.updates.0 q))
