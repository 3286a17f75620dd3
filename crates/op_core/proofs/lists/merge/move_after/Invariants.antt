use Rattle.std.proofs.Common.{◌≡◌, ◌≤◌, ◌+◌, vec_len, vec_capacity}
use Rattle.op_core.proofs.Sets.Merging.{Moved}
use Rattle.op_core.proofs.lists.merge.move_after.Given as goal

abbrev pub invariant-moving : goal.invariant-moving
invariant-moving g l = record {
  moved : Moved l.initial.list.items l.list.items l.initial.to.items l.to.items;
  at_least : l.at ≤ vec_len l.list;
  room : vec_len l.to + vec_len l.list ≤ vec_capacity l.to + l.at;
  together : vec_len l.to + vec_len l.list ≡ vec_len l.initial.to + vec_len l.initial.list;
  left_room : vec_capacity l.list ≡ vec_capacity l.initial.list;
  moved_room : vec_capacity l.initial.to ≤ vec_capacity l.to;
}

abbrev pub decreases-moving : goal.decreases-moving
decreases-moving g l = vec_len l.list
