use Rattle.std.proofs.Common.{sym, ap, subst, ◌≡◌, ◌∙◌, true, List}
use Rattle.op_core.specs.Ids.{Id}
use Rattle.op_core.specs.Ops.{Operation}
use Rattle.op_core.specs.Sets.{rises}
use Rattle.op_core.specs.Loops.Index.{IsBefore}
use Rattle.op_core.proofs.Sets.Merging.{place, before_first}
use Rattle.op_core.proofs.lists.merge.place_first.Goals as goal

pub returns-in-Some-clause-before : goal.returns-in-Some-clause-before
returns-in-Some-clause-before c =
    let e = c.in-Some.ensures.cases.0 in
    subst (IsBefore c.place_last.result c.args.held.now) (sym e)
    (before_first c.args.held.now c.in-Some.op.now _ c.place_last.result
    (c.place_last.ensures.place ∙ ap (λ (i : Id). place i c.args.held.now) c.id.ensures.id)
    (subst (λ (xs : List Operation). rises xs ≡ true) e c.requires.new))
