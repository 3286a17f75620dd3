use Rattle.std.proofs.Common.{◌≡◌, ◌-◌, None, option_map}
use Rattle.bundle_codec.specs.Reading.{named_at, after_id, many_at, ahead}
use Rattle.bundle_codec.specs.Views.{id_view}
use Rattle.bundle_codec.proofs.judging.ids.after_ids.Given as goal

abbrev pub invariant-loop : goal.invariant-loop
invariant-loop l = ahead (many_at (named_at l.bad (id_view l.own)) after_id (l.count - l.counter) (option_map id_view l.before) l.rest)
    ≡ ahead (many_at (named_at l.bad (id_view l.own)) after_id l.count None l.bytes)
