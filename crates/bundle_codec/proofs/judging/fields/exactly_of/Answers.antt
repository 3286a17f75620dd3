use Rattle.std.proofs.lemmas.Result.{err_from_is_err_and}
use Rattle.bundle_codec.specs.Reading.{exactly_at}
use Rattle.bundle_codec.proofs.Loops.{same_byte, other_byte, cut_byte, all_bytes}
use Rattle.bundle_codec.proofs.judging.fields.exactly_of.Goals as goal

pub returns-in_err-b : goal.returns-in_err-b
returns-in_err-b c =
    let p = err_from_is_err_and c.from_residual.result c.from_residual.ensures.1 in
    rw (p.1, p.2) (cut_byte c.args.text.now c.args.bad c.loop-m.m-index c.loop-m.rest.now c.in_err-b.field-0.0
    (exactly_at c.args.text.now c.args.bad c.args.bytes.now) c.loop-m-test.true c.in_err-b.ensures c.loop-m.invariant)

pub returns-then-b-m : goal.returns-then-b-m
returns-then-b-m c = other_byte c.args.text.now c.args.bad c.loop-m.m-index c.loop-m.rest.now c.in_ok-b.b c.in_ok-b.left.now
    (exactly_at c.args.text.now c.args.bad c.args.bytes.now) c.loop-m-test.true c.in_ok-b.ensures c.if-b-m.true c.loop-m.invariant

pub loop-m-preserved : goal.loop-m-preserved
loop-m-preserved c = same_byte c.args.text.now c.args.bad c.loop-m.m-index c.loop-m.rest.now c.in_ok-b.b c.in_ok-b.left.now
    (exactly_at c.args.text.now c.args.bad c.args.bytes.now) c.loop-m-test.true c.in_ok-b.ensures c.if-b-m.false c.loop-m.invariant

pub returns : goal.returns
returns c = all_bytes c.args.text.now c.args.bad c.loop-m.m-index c.loop-m.rest.now
    (exactly_at c.args.text.now c.args.bad c.args.bytes.now) c.loop-m-test.false c.loop-m.invariant
