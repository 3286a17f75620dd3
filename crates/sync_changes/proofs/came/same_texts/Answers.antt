use Rattle.std.proofs.Common.{refl, ◌∙◌}
use Rattle.sync_changes.proofs.SameTexts.{same_lent}
use Rattle.sync_changes.proofs.came.same_texts.Goals as goal

pub returns : goal.returns
returns c = c.eq.ensures ∙ same_lent _ (λ x y. refl) c.args.left.now c.args.right.now
