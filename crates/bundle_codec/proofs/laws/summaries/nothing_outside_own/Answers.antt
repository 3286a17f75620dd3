use Rattle.bundle_codec.proofs.Deltas.{own_outside}
use Rattle.bundle_codec.proofs.laws.summaries.nothing_outside_own.Goals as goal

pub returns : goal.returns
returns _ held s a h = own_outside held s a h
