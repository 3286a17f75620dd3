use Rattle.std.proofs.Common.{◌==◌, ◌||◌, Bool, List, [], ◌∷◌, ◌++◌, filter, sym, ap, ◌∙◌, append_assoc}
use Rattle.std.proofs.lemmas.List.Elements.{filter-append}
use Rattle.op_core.specs.Export.{of_book}
use Rattle.op_core.specs.Ops.{Operation}
use Rattle.replica_state.proofs.one_book.copy_for_edit.Goals as goal

pub loop-view-preserved : goal.loop-view-preserved
loop-view-preserved c =
    let p : Operation → Bool = λ o. of_book c.args.book o || o.id.number == c.greatest_number-greatest.result in
    let one = c.in-Some.view in
    let rest = c.next.new.self in
    ap (λ (ops : List Operation). ops ++ filter p rest) c.in_ok-copy_if_for_edit.ensures
    ∙ append_assoc c.loop-view.ops.items (filter p (one ∷ [])) (filter p rest)
    ∙ ap (λ (ops : List Operation). c.loop-view.ops.items ++ ops) (sym (filter-append p (one ∷ []) rest))
    ∙ ap (λ (ops : List Operation). c.loop-view.ops.items ++ filter p ops) (sym c.in-Some.ensures.steps)
    ∙ c.loop-view.invariant
