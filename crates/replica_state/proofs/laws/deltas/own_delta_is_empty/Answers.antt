use Rattle.bundle_codec.proofs.Deltas.{own_outside}
use Rattle.replica_state.proofs.laws.deltas.own_delta_is_empty.Goals as goal

pub returns : goal.returns
returns _ own s a h = own_outside own.held s a.set h
