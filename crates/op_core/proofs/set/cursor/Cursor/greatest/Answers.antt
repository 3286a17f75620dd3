use Rattle.std.proofs.Common.{ap, ◌-◌, ◌∙◌, List, length}
use Rattle.std.specs.List.{slice_get}
use Rattle.op_core.specs.Ids.{Id}
use Rattle.op_core.specs.Ops.{Operation}
use Rattle.op_core.specs.Sets.{get}
use Rattle.op_core.specs.Shown.{is_shown, shown, last}
use Rattle.op_core.proofs.IdOrders.Listed.{held_filter, get_from, last_held}
use Rattle.op_core.proofs.set.cursor.Cursor.greatest.Goals as goal

pub returns-clause-found : goal.returns-clause-found
returns-clause-found c =
    let held = c.self.inside.set.now in
    let at = c.args.segment.now in
    let ids = c.shown_of.ensures.found ∙ c.index.ensures.index.keeps.shown at in
    c.find_near.ensures.found
    ∙ ap (λ (ops : List Operation). get ops c.in_ok-id.id.now) c.ops.ensures.ops
    ∙ ap (get_from held) (c.in_ok-id.ensures.value ∙ ap (λ (ids : List Id). slice_get ids (length ids - 1)) ids)
    ∙ last_held held _ (held_filter held (is_shown held at) c.index.ensures.set.rising)
    ∙ ap (λ (ops : List Operation). last (shown ops at)) c.self.view_is
