use Rattle.bare_stream.proofs.Mixed.{loses_seals}
use Rattle.bare_stream.proofs.laws.streams_lose_their_seals.Goals as goal

pub returns : goal.returns
returns _ = loses_seals
