use Rattle.replica_state.proofs.laws.calls.new.Goals as goal

pub returns : goal.returns
returns c = c.new.ensures
