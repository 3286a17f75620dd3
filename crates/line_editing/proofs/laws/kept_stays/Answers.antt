use Rattle.std.proofs.Common.{sym}
use Rattle.line_editing.proofs.laws.kept_stays.Goals as goal

pub returns : goal.returns
returns _ text line later h = sym h.joins
