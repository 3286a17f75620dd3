use Rattle.std.proofs.Common.{◌-◌, length, length-drop, arith}
use Rattle.kept_days.proofs.Orders.{rest_late, rising_sorted}
use Rattle.kept_days.proofs.laws.newest_stay.Goals as goal

pub returns : goal.returns
returns c days h =
    (rest_late (length days - 400) days (rising_sorted days h), omega (arith, length-drop (length days - 400) days))
