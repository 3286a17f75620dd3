use Rattle.std.proofs.Common.{◌≡◌, List, length, ap, subst, ◌∙◌, arith}
use Rattle.std.specs.declared.cmp.Ordering.{Ordering}
use Rattle.std.specs.List.Sorted.{IsSorted}
use Rattle.usfm_ref.specs.Rising.{rising}
use Rattle.usfm_ref.specs.Segments.{segment_cmp}
use Rattle.usfm_ref.specs.declared.segment.Segment.{Segment}
use Rattle.segment_history.proofs.Gathers.{cmp_is}
use Rattle.segment_history.proofs.Changing.{segments_once}
use Rattle.segment_history.proofs.thinning.left_out.Goals as goal

pub returns-clause-segments : goal.returns-clause-segments
returns-clause-segments c =
    let here : c.len.result ≡ length c.dedup.new.self.items = omega (arith, c.len.ensures, c.dedup.new.self.ok.0) in
    here
    ∙ ap length
    (segments_once c.in_ok-segments.segments.items c.sort_unstable.new.self.items c.dedup.new.self.items
    c.sort_unstable.ensures.permutation (subst (λ (cmp : Segment → Segment → Ordering). IsSorted cmp c.sort_unstable.new.self.items)
    cmp_is c.sort_unstable.ensures.sorted) c.dedup.ensures.filtered
    ∙ ap (rising segment_cmp) c.in_ok-segments.ensures)
