use Rattle.std.proofs.Common.{ap, ◌∙◌}
use Rattle.op_core.specs.Thinned.{all_full}
use Rattle.bundle_codec.proofs.bundle.Bundle.is_full.Goals as goal

pub returns : goal.returns
returns c = c.self.invariant.format ∙ ap all_full c.self.view_is
