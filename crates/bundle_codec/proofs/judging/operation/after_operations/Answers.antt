use Rattle.std.proofs.Common.{◌+◌, None, option_map}
use Rattle.std.proofs.lemmas.Result.{err_from_is_err_and}
use Rattle.bundle_codec.specs.Reading.{operation_at, after_operation, operations_at, ahead}
use Rattle.bundle_codec.specs.Views.{id_view, op_view}
use Rattle.bundle_codec.proofs.Loops.{goes_on, fails, is_done}
use Rattle.bundle_codec.proofs.judging.operation.after_operations.Goals as goal

pub returns-in_err-fields : goal.returns-in_err-fields
returns-in_err-fields c =
    let p = err_from_is_err_and c.from_residual.result c.from_residual.ensures.1 in
    rw (p.1, p.2) (fails (λ s. operation_at c.args.full s.0 s.1) after_operation c.args.count c.loop-i.i
    (c.loop-i.i + 1, option_map id_view c.loop-i.before) c.loop-i.rest.now c.in_err-fields.field-0.0
    (ahead (operations_at c.args.full c.args.count (1, None) c.args.bytes.now)) c.loop-i-test.true
    c.in_err-fields.ensures c.loop-i.invariant)

pub loop-i-preserved : goal.loop-i-preserved
loop-i-preserved c =
    goes_on (λ s. operation_at c.args.full s.0 s.1) after_operation c.args.count c.loop-i.i
    (c.loop-i.i + 1, option_map id_view c.loop-i.before) c.loop-i.rest.now (op_view c.in_ok-fields.fields) c.in_ok-fields.left.now
    (ahead (operations_at c.args.full c.args.count (1, None) c.args.bytes.now)) c.loop-i-test.true
    c.in_ok-fields.ensures c.loop-i.invariant

pub returns : goal.returns
returns c = is_done (λ s. operation_at c.args.full s.0 s.1) after_operation c.args.count c.loop-i.i
    (c.loop-i.i + 1, option_map id_view c.loop-i.before) c.loop-i.rest.now
    (ahead (operations_at c.args.full c.args.count (1, None) c.args.bytes.now)) c.loop-i-test.false c.loop-i.invariant
