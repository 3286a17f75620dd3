use Rattle.usfm_cli.proofs.StreamLemmas.{gives_union}
use Rattle.usfm_cli.proofs.laws.streams_give_unions.Goals as goal

pub returns : goal.returns
returns _ sets input s = gives_union sets input s
