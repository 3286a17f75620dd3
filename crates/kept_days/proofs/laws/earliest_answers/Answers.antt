use Rattle.kept_days.proofs.Orders.{late_answer, rising_sorted}
use Rattle.kept_days.proofs.laws.earliest_answers.Goals as goal

pub returns : goal.returns
returns c asked days h = late_answer asked days (rising_sorted days h)
