use Rattle.std.proofs.Common.{not, sym, ◌∙◌}
use Rattle.bundle_codec.specs.Views.{lent}
use Rattle.op_core.specs.Ops.{or_empty}
use Rattle.op_core.specs.Shown.{is_empty}
use Rattle.op_core.proofs.FilteredLists.{any_map}
use Rattle.sync_changes.proofs.removed.has_text.Goals as goal

pub returns : goal.returns
returns c = c.any_text.ensures ∙ sym (any_map (λ text. not (is_empty (or_empty text))) lent c.args.texts.now)
