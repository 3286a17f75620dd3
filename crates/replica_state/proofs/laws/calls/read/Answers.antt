use Rattle.replica_state.proofs.World.Reads.{refuses_cut}
use Rattle.replica_state.proofs.World.Sets.{hold_sets}
use Rattle.replica_state.proofs.laws.calls.read.Goals as goal

pub returns-clause-whole : goal.returns-clause-whole
returns-clause-whole c events k ops within is spelled =
    let s = hold_sets events within in c.decode_whole.ensures.only ops (s.bundles k ops is) (s.bundles_legal k ops is) spelled

pub returns-clause-cut : goal.returns-clause-cut
returns-clause-cut c = refuses_cut c.args.bytes.now c.decode_whole.result c.decode_whole.ensures.exact
