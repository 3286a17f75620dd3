use Rattle.std.proofs.Common.{map, not, ◌||◌, ap, ◌∙◌}
use Rattle.bundle_codec.specs.Views.{lent}
use Rattle.sync_changes.specs.Changes.{has_text}
use Rattle.sync_changes.proofs.removed.is_kept.Goals as goal

pub returns : goal.returns
returns c =
    c.is_or_was_not.ensures
    ∙ (λ i. (c.has_text.ensures ∙ ap (λ ts. has_text (map lent ts)) c.deref.ensures.value ∙ ap has_text c.in_ok-now.ensures) i
    || not ((c.has_text-2.ensures ∙ ap (λ ts. has_text (map lent ts)) c.deref-2.ensures.value ∙ ap has_text c.in_ok-was.ensures) i))
