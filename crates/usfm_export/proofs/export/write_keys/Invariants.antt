use Rattle.std.proofs.Common.{◌≡◌}
use Rattle.usfm_export.proofs.Exporting.{IsWritten}
use Rattle.usfm_export.proofs.export.write_keys.Given as goal

-- the sink took the texts of the keys so far, and did not fail
abbrev pub invariant-loop-key : goal.invariant-loop-key
invariant-loop-key g l =
    let sink = g.W.ByteSink in
    record {
      cursor : l.cursor ≡ l.replica.held;
      written : IsWritten l.replica.held l.book l.key-iterator (sink.taken l.fn.sink) (sink.taken l.sink) l.gone;
      failures : sink.failures l.sink ≡ sink.failures l.fn.sink;
    }
