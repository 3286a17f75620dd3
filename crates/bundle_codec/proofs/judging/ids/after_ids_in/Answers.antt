use Rattle.bundle_codec.specs.declared.fault.BundleFault.TheVariants.{Truncated}
use Rattle.bundle_codec.specs.Reading.{id_at, ahead}
use Rattle.bundle_codec.specs.Views.{each_id_at}
use Rattle.bundle_codec.proofs.Loops.{goes_on, is_done}
use Rattle.bundle_codec.proofs.Steps.{loop_one, after_is_ok}
use Rattle.bundle_codec.proofs.judging.ids.after_ids_in.Goals as goal

pub id_in-requires : goal.id_in-requires
id_in-requires c = loop_one (id_at Truncated) c.args.count c.loop.counter c.loop.rest.now
    (ahead (each_id_at c.args.count c.args.bytes.now)) c.loop-test.true
    (after_is_ok (each_id_at c.args.count c.args.bytes.now) c.requires) c.loop.invariant

pub loop-preserved : goal.loop-preserved
loop-preserved c = goes_on (λ _. id_at Truncated) (λ s _. s) c.args.count c.loop.counter tt c.loop.rest.now _ _
    (ahead (each_id_at c.args.count c.args.bytes.now)) c.loop-test.true c.id_in.ensures.value c.loop.invariant

pub returns : goal.returns
returns c = is_done (λ _. id_at Truncated) (λ s _. s) c.args.count c.loop.counter tt c.loop.rest.now
    (ahead (each_id_at c.args.count c.args.bytes.now)) c.loop-test.false c.loop.invariant
