use Rattle.bundle_codec.proofs.Deltas.{outside_union}
use Rattle.bundle_codec.proofs.laws.summaries.outside_gives_union.Goals as goal

pub returns : goal.returns
returns _ own other s a b full h = outside_union own other s a b full h
