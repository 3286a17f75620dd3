use Rattle.conflict_settling.proofs.Listed.{lists_what_is_shown}
use Rattle.conflict_settling.proofs.laws.lists_what_is_shown.Goals as goal

pub returns : goal.returns
returns c = lists_what_is_shown
