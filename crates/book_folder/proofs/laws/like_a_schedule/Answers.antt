use Rattle.book_folder.proofs.Schedules.ScheduleLaws as proved
use Rattle.book_folder.proofs.laws.like_a_schedule.Goals as goal

pub returns : goal.returns
returns _ = proved.like_a_schedule
