use Rattle.std.proofs.Common.{◌≡◌, take}
use Rattle.usfm_export.specs.Writing.{TakesAll}
use Rattle.conflict_report.specs.Loops.Parts.{bytes_of}
use Rattle.conflict_report.proofs.part.write_parts.Given as goal

-- the sink took the parts so far, and did not fail
abbrev pub invariant-loop-part : goal.invariant-loop-part
invariant-loop-part g l =
    let sink = g.W.ByteSink in
    record {
      taken : TakesAll (sink.taken l.fn.sink) (sink.taken l.sink) (bytes_of (take l.part-index l.parts)) 0 l.gone;
      failures : sink.failures l.sink ≡ sink.failures l.fn.sink;
    }
