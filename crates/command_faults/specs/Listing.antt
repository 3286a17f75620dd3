-- Which faults are listed (this project's own rule).
use Rattle.std.specs.Prelude.{◌≡◌, ◌==◌, true, List, map, IsTrue}
use Rattle.std.specs.List.{list_any}
use Rattle.std.specs.Ordering.{nat_cmp}
use Rattle.usfm_ref.specs.Rising.{rises_by}
use Rattle.command_faults.specs.Lines.{fault_number}
use Rattle.command_faults.specs.declared.fault.Fault.{Fault}

-- faults are all that there are, told apart by their numbers, and stand in the order of these
pub record AreAllFaults (faults : List Fault) : Type 0 where
  pub in_order : IsTrue (rises_by nat_cmp fault_number faults)
  pub each : (fault : Fault) → IsTrue (list_any (λ f. fault_number f == fault_number fault) faults)
