use Rattle.bundle_codec.proofs.Deltas.{outside_legal}
use Rattle.bundle_codec.proofs.laws.summaries.outside_is_legal.Goals as goal

pub returns : goal.returns
returns _ own s a legal = outside_legal own s a legal
