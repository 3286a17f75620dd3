use Rattle.std.proofs.Common.{Some, sym, ap, ◌∙◌}
use Rattle.bundle_codec.proofs.Merges.{steps_other, steps_less, steps_greater, steps_tied, clashes}
use Rattle.bundle_codec.proofs.joining.merging.pass_least.Goals as goal

pub returns-then-not-agrees-clause-refused : goal.returns-then-not-agrees-clause-refused
returns-then-not-agrees-clause-refused c =
    clashes c.args.left.now c.args.right.now _ _ c.in-Some-Some.x.now c.in-Some-Some.y.now c.in-Some-Some.ensures.1
    c.in-Some-Some.ensures'.1 c.requires.left c.requires.right
    (sym c.compare_id.ensures ∙ c.in-Equal.is) (sym c.agrees.ensures ∙ c.if-not-agrees.true)
    ∙ ap Some (sym c.id-id.ensures.id)

pub returns-in-None-default-clause-next : goal.returns-in-None-default-clause-next
returns-in-None-default-clause-next c = steps_other c.args.left.now c.args.right.now c.pass.new.self c.pass.result c.in-None-default.ensures
    c.requires.left c.requires.right c.pass.ensures

pub returns-in-Less-clause-next : goal.returns-in-Less-clause-next
returns-in-Less-clause-next c =
    steps_less c.args.left.now c.args.right.now _ _ c.in-Some-Some.x.now c.in-Some-Some.y.now c.in-Some-Some.ensures.1
    c.in-Some-Some.ensures'.1 c.requires.left c.requires.right
    c.pass-in-Less.new.self c.pass-in-Less.result (sym c.compare_id.ensures ∙ c.in-Less.is) c.pass-in-Less.ensures

pub returns-in-Greater-clause-next : goal.returns-in-Greater-clause-next
returns-in-Greater-clause-next c =
    steps_greater c.args.left.now c.args.right.now _ _ c.in-Some-Some.x.now c.in-Some-Some.y.now c.in-Some-Some.ensures.1
    c.in-Some-Some.ensures'.1 c.requires.left c.requires.right
    c.pass-in-Greater.new.self c.pass-in-Greater.result (sym c.compare_id.ensures ∙ c.in-Greater.is) c.pass-in-Greater.ensures

pub returns-else-not-agrees-clause-next : goal.returns-else-not-agrees-clause-next
returns-else-not-agrees-clause-next c =
    steps_tied c.args.left.now c.args.right.now _ _ c.in-Some-Some.x.now c.in-Some-Some.y.now c.in-Some-Some.ensures.1
    c.in-Some-Some.ensures'.1 c.requires.left c.requires.right
    c.pass_both.new.left c.pass_both.new.right c.pass_both.result (sym c.compare_id.ensures ∙ c.in-Equal.is)
    (sym c.agrees.ensures ∙ c.if-not-agrees.false) c.pass_both.ensures
