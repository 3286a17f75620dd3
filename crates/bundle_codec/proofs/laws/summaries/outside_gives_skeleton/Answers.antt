use Rattle.bundle_codec.proofs.Deltas.{outside_skeleton}
use Rattle.bundle_codec.proofs.laws.summaries.outside_gives_skeleton.Goals as goal

pub returns : goal.returns
returns _ own other s a b none h = outside_skeleton own other s a b none h
