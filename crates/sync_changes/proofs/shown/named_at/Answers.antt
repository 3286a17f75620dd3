use Rattle.std.proofs.Common.{List, IfOk, sym, subst, ◌∙◌}
use Rattle.op_core.specs.Ops.{Operation}
use Rattle.segment_history.proofs.Gathers.{found_ops, none_ops}
use Rattle.sync_changes.specs.Loops.Parts.{HasNamed, in_part}
use Rattle.sync_changes.proofs.shown.named_at.Goals as goal

pub returns-in-None : goal.returns-in-None
returns-in-None c =
    subst (λ (ops : List Operation). IfOk c.named_in.result (HasNamed ops (in_part c.args.part)))
    (sym (none_ops c.args.gathered.now c.args.segment.now c.in-None.ensures.value)) c.named_in.ensures

pub returns : goal.returns
returns c =
    subst (λ (ops : List Operation). IfOk c.named_in-2.result (HasNamed ops (in_part c.args.part)))
    (c.deref-ops.ensures.value ∙ sym (found_ops c.args.gathered.now c.args.segment.now c.in-Some.ops.now c.in-Some.ensures.value))
    c.named_in-2.ensures
