use Rattle.std.proofs.Common.{◌≤◌, ◌+◌, ◌++◌, reverse, length, vec_len, vec_capacity}
use Rattle.op_core.specs.Loops.Index.{LaysKeys}
use Rattle.op_core.proofs.index.lay.merge_registers.Given as goal

abbrev pub invariant-laying : goal.invariant-laying
invariant-laying l = record {
  lays : LaysKeys l.head l.initial.registers.items (l.registers.items ++ reverse l.tail.items);
  room : vec_len l.registers + vec_len l.tail ≤ vec_capacity l.registers;
  spare : vec_len l.registers + vec_len l.tail ≤ vec_capacity l.tail;
}

abbrev pub decreases-laying : goal.decreases-laying
decreases-laying l = length l.rest
