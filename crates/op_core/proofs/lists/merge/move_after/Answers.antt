use Rattle.std.proofs.Common.{ap, ◌≡◌, ◌∙◌, true, is_ok, arith}
use Rattle.std.proofs.lemmas.Bool.{cond-true}
use Rattle.op_core.proofs.Sets.Merging.{moved_more}
use Rattle.op_core.proofs.lists.merge.move_after.Goals as goal

pub moving-preserved : goal.moving-preserved
moving-preserved g c =
    let went : is_ok c.push.result ≡ true = ap is_ok c.unwrap.ensures in
    let h = c.moving.invariant in
    let more = c.push.ensures.len ∙ cond-true _ _ _ went in
    record {
      moved = moved_more c.args.list.now.items c.moving.list.items c.pop.new.self.items c.args.to.now.items c.moving.to.items
          c.push.new.self.items c.in-Some.item c.in-Some.ensures.items (c.push.ensures.items ∙ cond-true _ _ _ went) h.moved;
      at_least = omega (arith, c.moving-test.true, c.in-Some.ensures.len);
      room = omega (arith, h.room, more, c.in-Some.ensures.len, c.push.ensures.capacity);
      together = omega (arith, h.together, more, c.in-Some.ensures.len);
      left_room = c.pop.ensures.capacity ∙ h.left_room;
      moved_room = omega (arith, h.moved_room, c.push.ensures.capacity);
    }
