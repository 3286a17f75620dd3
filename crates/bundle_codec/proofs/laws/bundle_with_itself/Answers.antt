use Rattle.bundle_codec.proofs.Groupings.{with_itself}
use Rattle.bundle_codec.proofs.laws.bundle_with_itself.Goals as goal

pub returns : goal.returns
returns _ x a = with_itself x a
