use Rattle.segment_history.proofs.HistoryLaws.{history_shows}
use Rattle.segment_history.proofs.laws.history_shows.Goals as goal

pub returns : goal.returns
returns c = history_shows
