use Rattle.std.proofs.Common.{◌≡◌, ◌++◌, drop}
use Rattle.std.specs.List.{flat_map}
use Rattle.bundle_codec.specs.Summaries.{name_ranges, summary}
use Rattle.bundle_codec.proofs.summaries.Summary.write.Given as goal

abbrev pub invariant-loop-name_ranges : goal.invariant-loop-name_ranges
invariant-loop-name_ranges l = l.bytes.items ++ flat_map name_ranges (drop l.name_ranges-index l.names) ≡ summary l.self
