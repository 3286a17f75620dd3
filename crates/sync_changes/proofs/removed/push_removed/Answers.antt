use Rattle.std.proofs.Common.{List, true, false, ◌++◌, sym, ap, ◌∙◌, append-nil}
use Rattle.usfm_ref.specs.declared.segment.Segment.{Segment}
use Rattle.op_core.specs.Ops.{Operation}
use Rattle.segment_history.proofs.Gathers.{found_ops, none_ops}
use Rattle.sync_changes.specs.Loops.Parts.{removed_by}
use Rattle.sync_changes.proofs.Saying.{removed_else}
use Rattle.sync_changes.proofs.removed.push_removed.Goals as goal

pub returns-in-None : goal.returns-in-None
returns-in-None c =
    sym (append-nil c.args.made.now.items)
    ∙ ap (λ (ops : List Operation). c.args.made.now.items ++ removed_by ops c.args.files.now c.args.segment.now)
    (sym (none_ops c.args.gathered.now c.args.segment.now c.in-None.ensures.value))

pub returns-then-branch : goal.returns-then-branch
returns-then-branch c =
    sym (append-nil c.args.made.now.items)
    ∙ ap (λ (said : List Segment). c.args.made.now.items ++ said)
    (removed_else c.deref-ops.result.now c.args.files.now c.args.segment.now true (sym c.in_ok-is_kept.ensures ∙ c.if-branch.true)
    ∙ ap (λ (ops : List Operation). removed_by ops c.args.files.now c.args.segment.now)
    (c.deref-ops.ensures.value ∙ sym (found_ops c.args.gathered.now c.args.segment.now c.in-Some.ops.now c.in-Some.ensures.value)))

pub returns : goal.returns
returns c =
    c.in_ok-push.ensures.items
    ∙ ap (λ (said : List Segment). c.args.made.now.items ++ said)
    (removed_else c.deref-ops.result.now c.args.files.now c.args.segment.now false (sym c.in_ok-is_kept.ensures ∙ c.if-branch.false)
    ∙ ap (λ (ops : List Operation). removed_by ops c.args.files.now c.args.segment.now)
    (c.deref-ops.ensures.value ∙ sym (found_ops c.args.gathered.now c.args.segment.now c.in-Some.ops.now c.in-Some.ensures.value)))
