use Rattle.usfm_cli.proofs.CombinedLaws.{streams_alike}
use Rattle.usfm_cli.proofs.laws.combining.streams_combine_alike.Goals as goal

pub returns : goal.returns
returns _ = streams_alike
