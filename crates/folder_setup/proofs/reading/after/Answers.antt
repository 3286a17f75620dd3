use Rattle.folder_setup.proofs.Fronts.{stripped}
use Rattle.folder_setup.proofs.reading.after.Goals as goal

pub returns : goal.returns
returns c = stripped c.args.front.now c.args.line.now c.strip_prefix.result c.strip_prefix.ensures.cases
