use Rattle.std.proofs.Common.{ap, ◌∙◌, length}
use Rattle.bundle_codec.proofs.bundle.Bundle.len.Goals as goal

pub returns : goal.returns
returns c = c.self.invariant.spells.count ∙ ap length c.self.view_is
