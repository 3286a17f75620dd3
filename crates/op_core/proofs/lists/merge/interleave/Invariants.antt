use Rattle.std.proofs.Common.{◌≡◌, ◌≤◌, ◌+◌, ◌++◌, true, reverse, vec_len, vec_capacity}
use Rattle.op_core.specs.Sets.{rises, join}
use Rattle.op_core.specs.Loops.Index.{AreApart, IsBefore}
use Rattle.op_core.proofs.lists.merge.interleave.Given as goal

abbrev pub invariant-merging : goal.invariant-merging
invariant-merging l = record {
  rising : rises l.ops.items ≡ true;
  new_rises : rises l.new.items ≡ true;
  apart : AreApart l.ops.items l.new.items;
  before : IsBefore l.from l.ops.items l.new.items;
  room : vec_len l.ops + vec_len l.new + vec_len l.tail ≤ vec_capacity l.ops;
  spare : vec_len l.ops + vec_len l.new + vec_len l.tail ≤ vec_capacity l.tail + l.from;
  union : join l.ops.items l.new.items ++ reverse l.tail.items ≡ join l.initial.ops.items l.initial.new.items;
}

abbrev pub decreases-merging : goal.decreases-merging
decreases-merging l = vec_len l.new
