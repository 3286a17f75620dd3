use Rattle.std.proofs.Common.{◌≡◌, ◌-◌, IfSome}
use Rattle.std.specs.Option.{option_copied}
use Rattle.bundle_codec.specs.Reading.{many_at, ahead}
use Rattle.bundle_codec.specs.SummaryReading.{name_ranges_at, after_name, names_at}
use Rattle.bundle_codec.proofs.SummaryLoops.{after_kept}
use Rattle.bundle_codec.proofs.summaries.reading.names_of.Given as goal

abbrev pub invariant-loop : goal.invariant-loop
invariant-loop l =
    (ahead (many_at name_ranges_at after_name (l.count - l.counter) (option_copied l.before) l.rest) ≡ ahead (names_at l.count l.bytes))
    × IfSome l.kept (λ v. names_at l.count l.bytes ≡ after_kept v.items
    (many_at name_ranges_at after_name (l.count - l.counter) (option_copied l.before) l.rest))
