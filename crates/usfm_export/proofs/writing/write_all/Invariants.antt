use Rattle.std.proofs.Common.{◌≡◌, ◌≤◌, ◌-◌, length, take}
use Rattle.std.specs.Io.KnownBytes.{Appends}
use Rattle.usfm_export.proofs.writing.write_all.Given as goal

-- the sink took what is gone, and did not fail
abbrev pub invariant-loop-gone : goal.invariant-loop-gone
invariant-loop-gone g l =
    let sink = g.W.ByteSink in
    record {
      in_range : l.gone ≤ length l.piece;
      taken : Appends (sink.taken l.fn.sink) (sink.taken l.sink) (take l.gone l.piece);
      failures : sink.failures l.sink ≡ sink.failures l.fn.sink;
    }

abbrev pub decreases-loop-gone : goal.decreases-loop-gone
decreases-loop-gone g l = length l.piece - l.gone
