use Rattle.segment_history.proofs.HistoryLaws.{history_tells_ids}
use Rattle.segment_history.proofs.laws.history_tells_ids.Goals as goal

pub returns : goal.returns
returns c = history_tells_ids
