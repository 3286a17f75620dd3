use Rattle.std.proofs.Common.{List, ◌++◌, sym, ap, ◌∙◌}
use Rattle.std.proofs.lemmas.List.{append-nil}
use Rattle.op_core.specs.Ids.{Id}
use Rattle.bundle_codec.proofs.views.view.OpView.replaced_ids.Goals as goal

pub returns : goal.returns
returns c =
    sym (append-nil c.loop-id.ids.items)
    ∙ ap (λ (ids : List Id). c.loop-id.ids.items ++ ids) (sym c.in-None.ensures.steps.0) ∙ c.loop-id.invariant
