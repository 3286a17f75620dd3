use Rattle.std.proofs.Common.{List, ◌++◌, map, sym, ap, subst, ◌∙◌, append-nil}
use Rattle.std.specs.declared.cmp.Ordering.{Ordering}
use Rattle.std.specs.List.Sorted.{IsSorted}
use Rattle.usfm_ref.specs.Rising.{rising}
use Rattle.usfm_ref.specs.Segments.{segment_cmp}
use Rattle.usfm_ref.specs.declared.segment.Segment.{Segment}
use Rattle.op_core.specs.Ops.{Operation}
use Rattle.op_core.specs.Thinned.{of_ids}
use Rattle.segment_history.proofs.Gathers.{cmp_is}
use Rattle.sync_changes.proofs.Listed.{segments_once}
use Rattle.sync_changes.specs.Loops.Parts.{in_part}
use Rattle.sync_changes.proofs.gathered.segments_of.Goals as goal

pub returns : goal.returns
returns c =
    segments_once c.loop-op.segments.items c.sort_unstable.new.self.items c.dedup.new.self.items
    c.sort_unstable.ensures.permutation (subst (λ (cmp : Segment → Segment → Ordering). IsSorted cmp c.sort_unstable.new.self.items)
    cmp_is c.sort_unstable.ensures.sorted) c.dedup.ensures.filtered
    ∙ ap (rising segment_cmp)
    (sym (append-nil c.loop-op.segments.items)
    ∙ ap (λ (os : List Operation). c.loop-op.segments.items ++ map (λ o. o.segment) (of_ids (in_part c.args.part) os))
    (sym c.in-None.ensures.steps.0)
    ∙ c.loop-op.invariant)
