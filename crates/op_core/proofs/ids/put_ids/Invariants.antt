use Rattle.std.proofs.Common.{◌≡◌, ◌≤◌, ◌+◌, ◌||◌, true, take, length, vec_len, vec_capacity}
use Rattle.op_core.specs.Ids.{Id, ids_rise}
use Rattle.op_core.specs.NextIds.{is_among}
use Rattle.op_core.proofs.ids.put_ids.Given as goal

abbrev pub invariant-loop-id : goal.invariant-loop-id
invariant-loop-id l = record {
  rising : ids_rise l.ids.items ≡ true;
  room : vec_len l.ids + length l.more ≤ vec_capacity l.ids + l.id-index;
  members : (q : Id) → is_among l.ids.items q ≡ (is_among l.initial.ids.items q || is_among (take l.id-index l.more) q);
}
