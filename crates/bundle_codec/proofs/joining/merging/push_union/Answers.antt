use Rattle.std.proofs.Common.{◌&&◌, subst, sym, ap, ◌∙◌}
use Rattle.op_core.specs.Ops.{is_full}
use Rattle.bundle_codec.specs.Loops.Merging.{TakesFirst}
use Rattle.bundle_codec.proofs.Merges.{lent_some, begins, goes_on}
use Rattle.bundle_codec.proofs.joining.merging.push_union.Goals.{then-full, else-full}
use Rattle.bundle_codec.proofs.joining.merging.push_union.Goals as goal

pub union-init : goal.union-init
union-init c =
    rw (c.new-left.ensures, c.new-right.ensures) (begins c.args.left c.args.right c.args.bytes.now.items c.requires.left c.requires.right)

pub union-preserved : goal.union-preserved
union-preserved c =
    let step =
    subst (TakesFirst c.union.left c.union.right c.pass_least.new.left c.pass_least.new.right) c.in-Some.is c.in_ok-op.ensures.next in
    rw c.in_ok-extend_from_slice.ensures.items
    (goes_on c.args.left c.args.right c.args.bytes.now.items c.union.bytes.items c.spelled.result.now c.union.full c.if-full.full
    c.union.count c.union.left c.union.right c.pass_least.new.left c.pass_least.new.right c.in-Some.op c.union.invariant step
    c.spelled.ensures
    (elim c.if-full.branch [
      | then-full w ↦
          w.full-is ∙ w.is_some-full.ensures ∙ lent_some w.text.result c.in-Some.op.text w.text.ensures
          ∙ sym (ap (λ b. b && is_full c.in-Some.op) w.if-full.true)
      | else-full w ↦ w.full-is ∙ w.if-full.false ∙ sym (ap (λ b. b && is_full c.in-Some.op) w.if-full.false)
    ]))
