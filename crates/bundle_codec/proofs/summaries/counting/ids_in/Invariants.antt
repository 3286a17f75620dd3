use Rattle.std.proofs.Common.{◌≡◌, ◌≤◌, ◌*◌, take}
use Rattle.std.specs.List.{sum_by}
use Rattle.bundle_codec.specs.Summaries.{numbers_in}
use Rattle.bundle_codec.proofs.summaries.counting.ids_in.Given as goal

abbrev pub invariant-loop-name_ranges : goal.invariant-loop-name_ranges
invariant-loop-name_ranges l =
    (l.total ≡ sum_by numbers_in (take l.name_ranges-index l.names))
    × (l.total ≤ l.name_ranges-index * 1000000000000000)
