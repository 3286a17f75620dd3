use Rattle.usfm_cli.proofs.Schedules.Relays.{all_hold}
use Rattle.usfm_cli.proofs.laws.schedules.all_hold_all.Goals as goal

pub returns : goal.returns
returns _ is_there later past moment name maker s t o d ends here f b g h =
    all_hold is_there later past d ends moment name maker s t o here f b g h
