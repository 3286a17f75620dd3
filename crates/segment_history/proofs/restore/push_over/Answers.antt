use Rattle.std.proofs.Common.{◌≡◌, List, ◌++◌, None, OnOk, sym, subst, ◌∙◌}
use Rattle.op_core.specs.Ops.{Operation}
use Rattle.segment_history.specs.Loops.Gathering.{ops_of}
use Rattle.segment_history.specs.Loops.Restoring.{restored_over}
use Rattle.segment_history.specs.Loops.Showing.{left_parts}
use Rattle.segment_history.proofs.Gathers.{found_ops, none_ops}
use Rattle.segment_history.proofs.restore.push_over.Goals as goal

pub returns-in_default : goal.returns-in_default
returns-in_default c =
    let none : c.deref.result.now ≡ ops_of c.args.gathered.now c.args.segment =
    cc (none_ops c.args.gathered.now c.args.segment c.in_default.ensures.value) in
    subst (λ (ops : List Operation). OnOk c.push_text.result
    (c.push_text.new.edits.items ≡ c.args.edits.now.items ++ restored_over (left_parts ops None) c.args.segment c.args.text.now))
    none c.push_text.ensures

pub returns : goal.returns
returns c =
    subst (λ (ops : List Operation). OnOk c.push_text-2.result
    (c.push_text-2.new.edits.items ≡ c.args.edits.now.items ++ restored_over (left_parts ops None) c.args.segment c.args.text.now))
    (c.deref-2.ensures.value ∙ sym (found_ops c.args.gathered.now c.args.segment c.in-Some.ops.now c.in-Some.ensures.value))
    c.push_text-2.ensures
