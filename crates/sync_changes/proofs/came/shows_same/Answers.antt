use Rattle.std.proofs.Common.{map, ap, ◌∙◌}
use Rattle.bundle_codec.specs.Views.{lent}
use Rattle.sync_changes.specs.Changes.{same_texts}
use Rattle.sync_changes.proofs.came.shows_same.Goals as goal

pub returns : goal.returns
returns c =
    c.same_texts.ensures
    ∙ (λ i. same_texts ((ap (map lent) c.deref.ensures.value ∙ c.in_ok-was.ensures) i)
    ((ap (map lent) c.deref-2.ensures.value ∙ c.in_ok-now.ensures) i))
