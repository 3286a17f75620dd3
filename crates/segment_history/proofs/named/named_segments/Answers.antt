use Rattle.std.proofs.Common.{List, [], ◌++◌, map, filter, arith, sym, ap, subst, ◌∙◌, append-nil}
use Rattle.std.specs.declared.cmp.Ordering.{Ordering}
use Rattle.std.specs.List.{flat_map}
use Rattle.std.specs.List.Sorted.{IsSorted}
use Rattle.std.proofs.lemmas.List.{take_all}
use Rattle.usfm_ref.specs.Rising.{rising}
use Rattle.usfm_ref.specs.Segments.{segment_cmp}
use Rattle.usfm_ref.specs.declared.segment.Segment.{Segment}
use Rattle.op_core.specs.Ops.{Operation}
use Rattle.segment_history.specs.Naming.{by_itself, is_named}
use Rattle.segment_history.proofs.Appending.{appended}
use Rattle.segment_history.proofs.Gathers.{cmp_is}
use Rattle.segment_history.proofs.Changing.{segments_once}
use Rattle.segment_history.proofs.NamedOnes.{named_on}
use Rattle.segment_history.proofs.named.named_segments.Goals as goal

pub loop-name-preserved : goal.loop-name-preserved
loop-name-preserved c =
    appended by_itself c.args.names.now c.loop-name.name-index c.name-item.result [] c.loop-name.segments.items
    c.push_by_itself.new.segments.items c.loop-name-test.true c.name-item.is c.in_ok-push_by_itself.ensures c.loop-name.invariant

pub loop-op-init : goal.loop-op-init
loop-op-init c =
    ap (λ (gs : List Segment). gs ++ filter (is_named c.args.names.now) (map (λ o. o.segment) c.into_iter-op-iterator.result))
    (c.loop-name.invariant
    ∙ ap (flat_map by_itself) (take_all c.loop-name.name-index c.args.names.now (omega (arith, c.loop-name-test.false))))
    ∙ ap (λ (ops : List Operation).
    flat_map by_itself c.args.names.now ++ filter (is_named c.args.names.now) (map (λ o. o.segment) ops))
    (c.into_iter-op-iterator.ensures.into_iter_gives ∙ c.ops-op-items.ensures.items)

pub loop-op-preserved : goal.loop-op-preserved
loop-op-preserved c =
    named_on (is_named c.args.names.now) c.loop-op.segments.items c.push_if_named.new.segments.items _ c.loop-op.op-iterator
    c.next.new.self c.in-Some.op c.segment_of.result c.in-Some.ensures.steps c.segment_of.ensures c.in_ok-push_if_named.ensures
    c.loop-op.invariant

pub returns : goal.returns
returns c =
    segments_once c.loop-op.segments.items c.sort_unstable.new.self.items c.dedup.new.self.items
    c.sort_unstable.ensures.permutation (subst (λ (cmp : Segment → Segment → Ordering). IsSorted cmp c.sort_unstable.new.self.items)
    cmp_is c.sort_unstable.ensures.sorted) c.dedup.ensures.filtered
    ∙ ap (rising segment_cmp)
    (sym (append-nil c.loop-op.segments.items)
    ∙ ap (λ (ops : List Operation). c.loop-op.segments.items ++ filter (is_named c.args.names.now) (map (λ o. o.segment) ops))
    (sym c.in-None.ensures.steps.0)
    ∙ c.loop-op.invariant)
