use Rattle.segment_history.proofs.HistoryLaws.{skeleton_tells}
use Rattle.segment_history.proofs.laws.skeleton_tells.Goals as goal

pub returns : goal.returns
returns c = skeleton_tells
