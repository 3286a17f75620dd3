use Rattle.plain_reading.proofs.LineLaws.{lines_fit}
use Rattle.plain_reading.proofs.laws.lines_fit.Goals as goal

pub returns : goal.returns
returns c = lines_fit
