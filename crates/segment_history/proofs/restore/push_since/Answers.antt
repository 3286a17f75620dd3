use Rattle.std.proofs.Common.{◌≡◌, List, ◌++◌, OnOk, IfErr, sym, ap, subst, ◌∙◌, append-nil}
use Rattle.op_core.specs.Ops.{Operation}
use Rattle.segment_history.specs.Loops.Restoring.{restored_by, first_lost, known_parts, IsLost}
use Rattle.segment_history.proofs.Gathers.{found_ops, none_ops}
use Rattle.segment_history.proofs.restore.push_since.Goals as goal

pub returns-in_default-clause-edits : goal.returns-in_default-clause-edits
returns-in_default-clause-edits c =
    sym (append-nil c.args.edits.now.items)
    ∙ ap (λ (ops : List Operation). c.args.edits.now.items ++ restored_by ops c.args.known.now c.args.segment)
    (sym (none_ops c.args.gathered.now c.args.segment c.in_default.ensures.value))

pub returns-clause-edits : goal.returns-clause-edits
returns-clause-edits c =
    subst (λ (ops : List Operation). OnOk c.push_known.result
    (c.push_known.new.edits.items ≡ c.args.edits.now.items ++ restored_by ops c.args.known.now c.args.segment))
    (c.deref.ensures.value ∙ sym (found_ops c.args.gathered.now c.args.segment c.in-Some.ops.now c.in-Some.ensures.value))
    c.push_known.ensures.edits

pub returns-clause-refused : goal.returns-clause-refused
returns-clause-refused c =
    subst (λ (ops : List Operation). IfErr c.push_known.result (IsLost (first_lost (known_parts ops c.args.known.now))))
    (c.deref.ensures.value ∙ sym (found_ops c.args.gathered.now c.args.segment c.in-Some.ops.now c.in-Some.ensures.value))
    c.push_known.ensures.refused
