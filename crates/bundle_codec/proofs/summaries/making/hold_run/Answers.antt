use Rattle.std.proofs.Common.{ℕ, List, Some, None, Vec, Global, is_some, sym, ap, subst, ◌∙◌}
use Rattle.std.specs.Map.{lookup}
use Rattle.std.specs.BTreeMap.{BTreeMap, is_at}
use Rattle.op_core.specs.Names.{name_cmp}
use Rattle.op_core.specs.Ids.{Id}
use Rattle.bundle_codec.specs.declared.summaries.range.NumberRange.{NumberRange}
use Rattle.bundle_codec.specs.Loops.Merging.{at_hand}
use Rattle.bundle_codec.specs.Loops.SummaryMaking.{AddsRun}
use Rattle.bundle_codec.proofs.Holding.{holds_named, run_as, if_ok}
use Rattle.bundle_codec.proofs.summaries.making.hold_run.Goals as goal

pub returns-in-Some : goal.returns-in-Some
returns-in-Some c = if_ok c.push_run.result _ _
    (λ next made. holds_named c.args.held.now (c.get_mut.follows.lender c.push_run.new.ranges)
    c.args.first c.args.ids.now (at_hand next c.push_run.new.ids) (Some c.in-Some.ranges.now) c.push_run.new.ranges
    c.first.inside.name (ap (λ (i : Id). i.name) c.first.view_is) (sym c.in-Some.ensures.value) made
    ((c.get_mut.follows.holds c.push_run.new.ranges).3 (ap is_some (sym c.in-Some.ensures.value))).0)
    c.push_run.ensures

pub returns : goal.returns
returns c =
    run_as c.get_mut.follows.lender-at-none c.args.held.now c.insert.new.self c.args.first c.args.ids.now
    (at_hand c.in_ok-next.next c.push_run-2.new.ids)
    (ap (λ (m : BTreeMap (List ℕ) (Vec NumberRange Global)). m.entries) c.get_mut.follows.holds-at-none)
    (holds_named c.get_mut.follows.lender-at-none c.insert.new.self c.args.first c.args.ids.now
    (at_hand c.in_ok-next.next c.push_run-2.new.ids)
    None c.push_run-2.new.ranges
    c.first.inside.name (ap (λ (i : Id). i.name) c.first.view_is)
    (ap (λ (m : BTreeMap (List ℕ) (Vec NumberRange Global)). lookup (is_at (name_cmp c.first.inside.name)) m.entries)
    c.get_mut.follows.holds-at-none ∙ sym c.in_default.ensures.value)
    (subst (λ (old : List NumberRange). AddsRun c.args.first c.args.ids.now (at_hand c.in_ok-next.next c.push_run-2.new.ids)
    old c.push_run-2.new.ranges.items)
    c.new-ranges.ensures.items c.in_ok-next.ensures)
    c.in_ok-insert.ensures.updates.0)
