use Rattle.std.proofs.Common.{ap}
use Rattle.bundle_codec.specs.Loops.Merging.{at_hand}
use Rattle.bundle_codec.proofs.SoFar.{so_far_run, so_far_all, holds_ranges}
use Rattle.bundle_codec.proofs.summaries.making.held_ranges.Goals as goal

pub runs-preserved : goal.runs-preserved
runs-preserved c = so_far_run c.args.ids (at_hand c.runs.next c.runs.ids) c.runs.ids
    (at_hand c.in_ok-next.next c.hold_run.new.ids) c.in-Some.id c.runs.held c.hold_run.new.held
    c.requires.rising c.requires.each (ap (λ n. at_hand n c.runs.ids) c.in-Some.is) c.in_ok-next.ensures c.runs.invariant

pub returns : goal.returns
returns c = holds_ranges c.args.ids c.runs.held c.len.ensures.ordered
    (so_far_all c.args.ids (at_hand c.runs.next c.runs.ids) c.runs.held
    (ap (λ n. at_hand n c.runs.ids) c.in_default.is) c.runs.invariant)
