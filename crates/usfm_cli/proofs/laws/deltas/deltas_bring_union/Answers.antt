use Rattle.usfm_cli.proofs.SummariesRead.{delta_brings}
use Rattle.usfm_cli.proofs.laws.deltas.deltas_bring_union.Goals as goal

pub returns : goal.returns
returns _ file other s t asked sent own theirs held state full wrote short answered fits =
    delta_brings file other s t asked own theirs state wrote short sent held full answered fits
