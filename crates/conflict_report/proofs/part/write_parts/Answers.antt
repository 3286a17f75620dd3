use Rattle.std.proofs.Common.{sym, ap}
use Rattle.std.proofs.lemmas.Result.{err_from_is_err_and}
use Rattle.usfm_export.proofs.Pieces.{TakesFront-at_index}
use Rattle.conflict_report.specs.Loops.Parts.{part_bytes}
use Rattle.conflict_report.proofs.part.write_parts.Goals as goal

pub returns-in_err-gone-clause-front : goal.returns-in_err-gone-clause-front
returns-in_err-gone-clause-front g c =
    let taken = g.W.ByteSink.taken in
    let fault = err_from_is_err_and c.from_residual.result c.from_residual.ensures.1 in
    rw (fault.1, fault.2) (TakesFront-at_index part_bytes c.args.parts.now c.loop-part.part-index c.part-item.result
    (part_bytes c.part-item.result) (taken c.args.sink.now) (taken c.loop-part.sink) (taken c.write_part.new.sink) 0 c.loop-part.gone
    c.in_err-gone.field-0.0.gone c.loop-part-test.true (ap part_bytes (sym c.part-item.is)) c.loop-part.invariant.taken
    c.in_err-gone.ensures.front)
