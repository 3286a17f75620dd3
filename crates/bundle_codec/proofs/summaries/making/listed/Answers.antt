use Rattle.bundle_codec.proofs.SoFar.{walked_none, walked_first, walked_more, walked_all}
use Rattle.bundle_codec.proofs.summaries.making.listed.Goals as goal

pub loop-name-init : goal.loop-name-init
loop-name-init c = walked_none c.args.held c.into_iter-name-iterator.result c.new-names.result.items
    c.into_iter-name-iterator.ensures.into_iter_gives.0 c.new-names.ensures.items c.requires

pub new-requires-clause-some : goal.new-requires-clause-some
new-requires-clause-some c =
    (walked_first c.args.held c.loop-name.name-iterator c.next.new.self
    (c.in-Some.name, c.in-Some.ranges) c.loop-name.names.items c.in-Some.ensures.steps c.loop-name.invariant).some

pub new-requires-clause-each : goal.new-requires-clause-each
new-requires-clause-each c =
    (walked_first c.args.held c.loop-name.name-iterator c.next.new.self
    (c.in-Some.name, c.in-Some.ranges) c.loop-name.names.items c.in-Some.ensures.steps c.loop-name.invariant).each

pub new-requires-clause-apart : goal.new-requires-clause-apart
new-requires-clause-apart c =
    (walked_first c.args.held c.loop-name.name-iterator c.next.new.self
    (c.in-Some.name, c.in-Some.ranges) c.loop-name.names.items c.in-Some.ensures.steps c.loop-name.invariant).apart

pub loop-name-preserved : goal.loop-name-preserved
loop-name-preserved c = walked_more c.args.held c.loop-name.name-iterator c.next.new.self
    (c.in-Some.name, c.in-Some.ranges) c.loop-name.names.items c.in-Some.ensures.steps c.loop-name.invariant c.new.result
    c.push.new.self.items c.in_ok-push.ensures.items c.new.ensures.parts c.new.ensures.valid

pub returns-clause-names : goal.returns-clause-names
returns-clause-names c =
    walked_all c.args.held c.loop-name.name-iterator c.loop-name.names.items c.in-None.ensures.steps.0 c.loop-name.invariant

pub returns-clause-valid : goal.returns-clause-valid
returns-clause-valid c = c.loop-name.invariant.valid
