use Rattle.std.proofs.Common.{Vec, Global, is_some, sym, ap}
use Rattle.std.specs.BTreeMap.{BTreeMap}
use Rattle.usfm_ref.specs.declared.segment.Segment.{Segment}
use Rattle.op_core.specs.Ops.{Operation}
use Rattle.segment_history.proofs.Gathers.{held_more, held_not}
use Rattle.sync_changes.proofs.gathered.hold.Goals as goal

pub returns-in_ok-push : goal.returns-in_ok-push
returns-in_ok-push c =
    held_more c.args.op c.segment_of.result c.segment_of.ensures c.args.made.now (c.get_mut.follows.lender c.push.new.self)
    c.in-Some.ops.now c.push.new.self c.in-Some.ensures.value c.in_ok-push.ensures.items
    ((c.get_mut.follows.holds c.push.new.self).3 (ap is_some (sym c.in-Some.ensures.value))).0

pub returns-in_default : goal.returns-in_default
returns-in_default c =
    held_not c.args.op c.segment_of.result c.segment_of.ensures c.args.made.now c.get_mut.follows.lender-at-none
    c.in_default.ensures.value
    (ap (λ (m : BTreeMap Segment (Vec Operation Global)). m.entries) c.get_mut.follows.holds-at-none)
