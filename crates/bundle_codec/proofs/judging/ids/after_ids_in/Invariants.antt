use Rattle.std.proofs.Common.{◌≡◌, ◌-◌}
use Rattle.bundle_codec.specs.Reading.{ahead}
use Rattle.bundle_codec.specs.Views.{each_id_at}
use Rattle.bundle_codec.proofs.judging.ids.after_ids_in.Given as goal

abbrev pub invariant-loop : goal.invariant-loop
invariant-loop l = ahead (each_id_at (l.count - l.counter) l.rest) ≡ ahead (each_id_at l.count l.bytes)
