use Rattle.std.proofs.Common.{◌∙◌, length, arith, ap}
use Rattle.usfm_export.proofs.Pieces.{Appends-next, tail_is, taking_is_no_failure}
use Rattle.usfm_export.proofs.writing.write_all.Goals as goal

pub loop-gone-preserved : goal.loop-gone-preserved
loop-gone-preserved g c =
    let sink = g.W.ByteSink in
    let tail = ap length (tail_is c.loop-gone.gone c.args.piece.now) in
    record {
      in_range = omega (arith, tail, c.in-Ok.ensures.fits);
      taken = Appends-next (sink.taken c.args.sink.now) (sink.taken c.loop-gone.sink) (sink.taken c.write.new.self) c.args.piece.now
          c.loop-gone.gone c.in-Ok.count c.loop-gone.invariant.taken c.in-Ok.ensures.bytes;
      failures = c.in-Ok.ensures.failed ∙ taking_is_no_failure c.in-Ok.count _ (sink.failures c.loop-gone.sink) c.in-Ok.count-test.1
          ∙ c.loop-gone.invariant.failures;
    }
