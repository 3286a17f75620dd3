use Rattle.bare_stream.proofs.Plain.{bare_stays}
use Rattle.bare_stream.proofs.laws.bare_streams_stay.Goals as goal

pub returns : goal.returns
returns _ = bare_stays
