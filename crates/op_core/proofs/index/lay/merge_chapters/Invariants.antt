use Rattle.std.proofs.Common.{◌≤◌, ◌+◌, ◌++◌, reverse, length, vec_len, vec_capacity}
use Rattle.op_core.specs.Loops.Index.{Lays}
use Rattle.op_core.proofs.index.lay.merge_chapters.Given as goal

abbrev pub invariant-laying : goal.invariant-laying
invariant-laying l = record {
  lays : Lays l.initial.chapters.items (l.chapters.items ++ reverse l.tail.items);
  room : vec_len l.chapters + vec_len l.tail ≤ vec_capacity l.chapters;
  spare : vec_len l.chapters + vec_len l.tail ≤ vec_capacity l.tail;
}

abbrev pub decreases-laying : goal.decreases-laying
decreases-laying l = length l.rest
