use Rattle.std.proofs.Common.{◌≡◌, [], sym, ap, ◌∙◌}
use Rattle.usfm_ref.specs.Books.{same_bytes}
use Rattle.op_core.specs.Ids.{Id}
use Rattle.bundle_codec.specs.Loops.SummaryMaking.{with_last}
use Rattle.bundle_codec.proofs.Holding.{run_begins, run_more, run_ends}
use Rattle.bundle_codec.proofs.summaries.making.push_run.Goals as goal

pub run-init : goal.run-init
run-init c = run_begins c.args.first.now c.args.ids.now c.args.ranges.now.items c.hold_number.new.ranges.items
    (c.in_ok-hold_number.ensures ∙ ap (λ (i : Id). with_last c.args.ranges.now.items i.number) c.first.view_is)

pub returns-then-not-is_of : goal.returns-then-not-is_of
returns-then-not-is_of c = run_ends c.args.first.now c.args.ids.now c.args.ranges.now.items c.run.ids _ c.run.ranges.items
    c.in-Some.ensures.steps c.run.invariant

pub run-preserved : goal.run-preserved
run-preserved c =
    let name : c.as_bytes-name.result.now
    ≡ c.args.first.now.name = c.as_bytes-name.ensures.value ∙ c.text.ensures.text ∙ ap (λ (i : Id). i.name) c.first.view_is in
    run_more c.args.first.now c.args.ids.now c.args.ranges.now.items c.run.ids c.next.new.self c.in-Some.id c.run.ranges.items
    c.hold_number-in-Some.new.ranges.items c.in-Some.ensures.steps
    (sym (ap (same_bytes c.in-Some.id.name) name) ∙ sym c.is_of.ensures ∙ c.if-not-is_of.false)
    (c.in_ok-hold_number-2.ensures ∙ ap (λ (i : Id). with_last c.run.ranges.items i.number) c.id.view_is) c.run.invariant

pub returns : goal.returns
returns c = run_ends c.args.first.now c.args.ids.now c.args.ranges.now.items c.run.ids [] c.run.ranges.items
    c.in_default.ensures.steps.0 c.run.invariant
