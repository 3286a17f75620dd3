use Rattle.std.proofs.Common.{arith}
use Rattle.op_core.proofs.IdOrders.IdLists.{put_rises}
use Rattle.op_core.proofs.IdOrders.IdSets.{put_one}
use Rattle.op_core.proofs.ids.put_ids.Goals as goal
use Rattle.op_core.specs.NextIds.{is_among}

pub loop-id-preserved : goal.loop-id-preserved
loop-id-preserved c =
    let h = c.loop-id.invariant in
    record {
      rising = put_rises c.id-item.result c.loop-id.ids.items c.put_id.new.ids.items c.put_id.ensures.items h.rising;
      room = omega (arith, h.room, c.put_id.ensures.len, c.put_id.ensures.capacity);
      members = λ q. put_one q (is_among c.args.ids.now.items q) c.args.more.now c.loop-id.ids.items c.put_id.new.ids.items
          c.loop-id.id-index c.id-item.result c.loop-id-test.true c.id-item.is c.put_id.ensures.items (h.members q);
    }
