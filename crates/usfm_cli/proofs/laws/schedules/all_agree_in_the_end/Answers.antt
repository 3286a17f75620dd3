use Rattle.usfm_cli.proofs.Schedules.Relays.{agree_in_bytes}
use Rattle.usfm_cli.proofs.laws.schedules.all_agree_in_the_end.Goals as goal

pub returns : goal.returns
returns _ is_there later past a b s t d ends ha hb f g = agree_in_bytes is_there later past d ends a b s t ha hb f g
