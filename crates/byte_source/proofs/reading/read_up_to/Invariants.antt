use Rattle.std.proofs.Common.{◌≡◌, ◌≤◌, ◌+◌, ◌-◌, length}
use Rattle.std.specs.Io.KnownBytes.{Consumes}
use Rattle.byte_source.proofs.reading.read_up_to.Given as goal

-- what was read so far is what the source gave, in at most one read for each byte and without a failure
abbrev pub invariant-loop-bytes : goal.invariant-loop-bytes
invariant-loop-bytes g l =
    let source = g.R.ByteSource in
    record {
      within : length l.bytes.items ≤ l.limit;
      given : Consumes (source.to_come l.fn.source) (source.to_come l.source) l.bytes.items;
      reads : source.reads l.source ≤ source.reads l.fn.source + length l.bytes.items;
      failures : source.failures l.source ≡ source.failures l.fn.source;
    }

abbrev pub decreases-loop-bytes : goal.decreases-loop-bytes
decreases-loop-bytes g l = l.limit - length l.bytes.items
