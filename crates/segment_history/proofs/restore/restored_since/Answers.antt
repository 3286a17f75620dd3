use Rattle.std.proofs.Common.{◌≡◌, Option, Result, Ok, Err, IfErr, sym, subst}
use Rattle.std.specs.Result.{IsErrAnd}
use Rattle.op_core.specs.Ids.{Id}
use Rattle.bundle_codec.specs.Summaries.{covers}
use Rattle.segment_history.specs.Restores.{first_left_out}
use Rattle.segment_history.specs.Loops.Restoring.{IsLost}
use Rattle.segment_history.specs.declared.fault.RestoreFault.{RestoreFault}
use Rattle.segment_history.proofs.Restoring.{restored_more, there_next, lost_next}
use Rattle.segment_history.proofs.restore.restored_since.Goals as goal

refused_as : {T : Type 0} (lost : Option Id) (fault : RestoreFault) (made : Result T RestoreFault) → IsErrAnd made (λ f. f ≡ fault)
    → IsLost lost fault → IfErr made (IsLost lost)
refused_as lost fault (Ok x) h l = tt
refused_as lost fault (Err f) h l = subst (IsLost lost) (sym h) l

pub loop-segment-preserved : goal.loop-segment-preserved
loop-segment-preserved c = record {
  edits = restored_more c.args.bundle.now c.args.known.now c.args.segments.now c.in_ok-gathered.gathered c.in_ok-gathered.ensures.has
      c.loop-segment.segment-index c.segment-item.result c.loop-segment-test.true c.segment-item.is
      c.loop-segment.edits.items c.push_since.new.edits.items c.in_ok-push_since.ensures.edits c.loop-segment.invariant.edits;
  there = there_next c.args.bundle.now c.args.known.now c.args.segments.now c.in_ok-gathered.gathered c.in_ok-gathered.ensures.has
      c.loop-segment.segment-index c.segment-item.result c.loop-segment-test.true c.segment-item.is
      c.loop-segment.invariant.there c.in_ok-push_since.ensures.there;
}

pub returns-in_err-push_since-clause-refused : goal.returns-in_err-push_since-clause-refused
returns-in_err-push_since-clause-refused c =
    let lost = lost_next c.args.bundle.now c.args.known.now c.args.segments.now
    c.in_ok-gathered.gathered c.in_ok-gathered.ensures.has
    c.loop-segment.segment-index c.segment-item.result c.loop-segment-test.true c.segment-item.is
    c.loop-segment.invariant.there c.in_err-push_since.field-0.0 c.in_err-push_since.ensures.refused in
    refused_as (first_left_out c.args.bundle.now (covers c.args.known.now) c.args.segments.now) c.in_err-push_since.field-0.0
    c.from_residual-in_err-push_since.result c.from_residual-in_err-push_since.ensures.1 lost
