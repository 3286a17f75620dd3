use Rattle.std.proofs.Common.{List, ◌++◌, sym, ap, ◌∙◌, append-nil}
use Rattle.op_core.specs.Ops.{Operation}
use Rattle.bundle_codec.specs.Summaries.{covers}
use Rattle.segment_history.proofs.Gathers.{found_ops, none_ops}
use Rattle.sync_changes.specs.Changes.{NamesParts}
use Rattle.sync_changes.specs.Loops.Parts.{came_by}
use Rattle.sync_changes.proofs.Saying.{came_else, came_same}
use Rattle.sync_changes.proofs.came.push_came.Goals as goal

pub returns-in-None : goal.returns-in-None
returns-in-None c =
    sym (append-nil c.args.made.now.items)
    ∙ ap (λ (ops : List Operation).
    c.args.made.now.items ++ came_by ops (covers c.args.known.now) c.args.files.now c.args.segment.now)
    (sym (none_ops c.args.gathered.now c.args.segment.now c.in-None.ensures.value))

pub returns-then-branch : goal.returns-then-branch
returns-then-branch c =
    sym (append-nil c.args.made.now.items)
    ∙ ap (λ (said : List NamesParts). c.args.made.now.items ++ said)
    (came_same c.deref-ops.result.now (covers c.args.known.now) c.args.files.now c.args.segment.now
    (sym c.in_ok-shows_same.ensures ∙ c.if-branch.true)
    ∙ ap (λ (ops : List Operation). came_by ops (covers c.args.known.now) c.args.files.now c.args.segment.now)
    (c.deref-ops.ensures.value ∙ sym (found_ops c.args.gathered.now c.args.segment.now c.in-Some.ops.now c.in-Some.ensures.value)))

pub returns : goal.returns
returns c =
    c.in_ok-push.ensures.items
    ∙ ap (λ (said : List NamesParts). c.args.made.now.items ++ said)
    (came_else c.deref-ops.result.now (covers c.args.known.now) c.args.files.now c.args.segment.now _
    (sym c.in_ok-shows_same.ensures ∙ c.if-branch.false) c.in_ok-names.ensures
    ∙ ap (λ (ops : List Operation). came_by ops (covers c.args.known.now) c.args.files.now c.args.segment.now)
    (c.deref-ops.ensures.value ∙ sym (found_ops c.args.gathered.now c.args.segment.now c.in-Some.ops.now c.in-Some.ensures.value)))
