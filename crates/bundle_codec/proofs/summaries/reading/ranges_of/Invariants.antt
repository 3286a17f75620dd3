use Rattle.std.proofs.Common.{◌≡◌, ◌-◌, IfSome}
use Rattle.bundle_codec.specs.Reading.{many_at, ahead}
use Rattle.bundle_codec.specs.SummaryReading.{range_at, after_range, ranges_at}
use Rattle.bundle_codec.proofs.SummaryLoops.{after_kept}
use Rattle.bundle_codec.proofs.summaries.reading.ranges_of.Given as goal

abbrev pub invariant-loop : goal.invariant-loop
invariant-loop l = (ahead (many_at range_at after_range (l.count - l.counter) l.before l.rest) ≡ ahead (ranges_at l.count l.bytes))
    × IfSome l.kept (λ v. ranges_at l.count l.bytes
    ≡ after_kept v.items (many_at range_at after_range (l.count - l.counter) l.before l.rest))
