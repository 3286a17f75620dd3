use Rattle.usfm_cli.proofs.StreamLemmas.{stream_of}
use Rattle.usfm_cli.proofs.laws.unions_are_of_streams.Goals as goal

pub returns : goal.returns
returns _ input union b h = stream_of input union b h
