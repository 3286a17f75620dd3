use Rattle.std.proofs.Common.{◌≡◌, ◌+◌, ◌-◌, None, option_map}
use Rattle.bundle_codec.specs.Reading.{operations_at, ahead}
use Rattle.bundle_codec.specs.Views.{id_view}
use Rattle.bundle_codec.proofs.judging.operation.after_operations.Given as goal

abbrev pub invariant-loop-i : goal.invariant-loop-i
invariant-loop-i l =
    ahead (operations_at l.full (l.count - l.i) (l.i + 1, option_map id_view l.before) l.rest)
    ≡ ahead (operations_at l.full l.count (1, None) l.bytes)
