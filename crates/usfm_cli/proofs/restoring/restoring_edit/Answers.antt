use Rattle.std.proofs.Common.{ap, ◌∙◌}
use Rattle.segment_history.specs.Restores.{RestoredParts}
use Rattle.usfm_cli.specs.Commands.{edit_over_done}
use Rattle.usfm_cli.proofs.restoring.restoring_edit.Goals as goal

pub returns : goal.returns
returns c = λ s.
    (λ i. edit_over_done s c.edit.inside.segment (c.as_bytes.ensures.value i) (c.deref.ensures.value i))
    ∙ ap (λ (e : RestoredParts). edit_over_done s e.segment e.text e.ids) c.edit.view_is
