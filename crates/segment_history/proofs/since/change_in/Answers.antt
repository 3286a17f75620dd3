use Rattle.std.proofs.Common.{List, sym, ap, ◌∙◌}
use Rattle.op_core.specs.Ops.{Operation}
use Rattle.segment_history.specs.Loops.Showing.{changed_by}
use Rattle.segment_history.proofs.Gathers.{found_ops, none_ops}
use Rattle.segment_history.proofs.since.change_in.Goals as goal

pub returns-in-None : goal.returns-in-None
returns-in-None c =
    c.unchanged.ensures c.args.known.now
    ∙ ap (λ (ops : List Operation). changed_by ops c.args.known.now c.args.segment)
    (sym (none_ops c.args.gathered.now c.args.segment c.in-None.ensures.value))

pub returns : goal.returns
returns c =
    (λ i. record {
      segment = c.args.segment;
      makers = c.in_ok-new_makers.ensures i;
      was = c.in_ok-shown_among.ensures i;
      now_shown = c.in_ok-shown_among-2.ensures i;
    })
    ∙ ap (λ (ops : List Operation). changed_by ops c.args.known.now c.args.segment)
    (c.deref-ops.ensures.value ∙ sym (found_ops c.args.gathered.now c.args.segment c.in-Some.ops.now c.in-Some.ensures.value))
