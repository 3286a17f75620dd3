use Rattle.std.proofs.Common.{None, option_map}
use Rattle.std.proofs.lemmas.Result.{err_from_is_err_and}
use Rattle.bundle_codec.specs.Reading.{named_at, after_id, many_at, ahead}
use Rattle.bundle_codec.specs.Views.{id_view}
use Rattle.bundle_codec.proofs.Loops.{goes_on, fails, is_done}
use Rattle.bundle_codec.proofs.judging.ids.after_ids.Goals as goal

pub returns-in_err-id : goal.returns-in_err-id
returns-in_err-id c =
    let p = err_from_is_err_and c.from_residual.result c.from_residual.ensures.1 in
    rw (p.1, p.2) (fails (named_at c.args.bad (id_view c.args.own.now)) after_id c.args.count c.loop.counter
    (option_map id_view c.loop.before) c.loop.rest.now c.in_err-id.field-0.0
    (ahead (many_at (named_at c.args.bad (id_view c.args.own.now)) after_id c.args.count None c.args.bytes.now)) c.loop-test.true
    c.in_err-id.ensures c.loop.invariant)

pub loop-preserved : goal.loop-preserved
loop-preserved c = goes_on (named_at c.args.bad (id_view c.args.own.now)) after_id c.args.count c.loop.counter
    (option_map id_view c.loop.before) c.loop.rest.now (id_view c.in_ok-id.id) c.in_ok-id.left.now
    (ahead (many_at (named_at c.args.bad (id_view c.args.own.now)) after_id c.args.count None c.args.bytes.now)) c.loop-test.true
    c.in_ok-id.ensures c.loop.invariant

pub returns : goal.returns
returns c = is_done (named_at c.args.bad (id_view c.args.own.now)) after_id c.args.count c.loop.counter
    (option_map id_view c.loop.before) c.loop.rest.now
    (ahead (many_at (named_at c.args.bad (id_view c.args.own.now)) after_id c.args.count None c.args.bytes.now)) c.loop-test.false
    c.loop.invariant
