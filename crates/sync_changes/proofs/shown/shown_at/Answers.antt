use Rattle.std.proofs.Common.{◌≡◌, List, IfOk, sym, subst, ◌∙◌}
use Rattle.op_core.specs.Lists.{ids_of}
use Rattle.op_core.specs.Ops.{Operation}
use Rattle.segment_history.proofs.Gathers.{found_ops, none_ops}
use Rattle.sync_changes.specs.Loops.Parts.{unnamed}
use Rattle.sync_changes.proofs.shown.shown_at.Goals as goal

pub returns-in-None : goal.returns-in-None
returns-in-None c =
    subst (λ (ops : List Operation). IfOk c.shown_ids.result (λ ids. ids.items ≡ ids_of (unnamed ops)))
    (sym (none_ops c.args.gathered.now c.args.segment.now c.in-None.ensures.value)) c.shown_ids.ensures

pub returns : goal.returns
returns c =
    subst (λ (ops : List Operation). IfOk c.shown_ids-2.result (λ ids. ids.items ≡ ids_of (unnamed ops)))
    (c.deref-ops.ensures.value ∙ sym (found_ops c.args.gathered.now c.args.segment.now c.in-Some.ops.now c.in-Some.ensures.value))
    c.shown_ids-2.ensures
