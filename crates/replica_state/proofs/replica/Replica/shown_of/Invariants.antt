use Rattle.std.proofs.Common.{◌≡◌, filter, take}
use Rattle.usfm_ref.specs.Segments.{segment}
use Rattle.op_core.specs.Lists.{shown_ids}
use Rattle.op_core.specs.NextIds.{is_among}
use Rattle.replica_state.proofs.replica.Replica.shown_of.Given as goal

abbrev pub invariant-loop-id : goal.invariant-loop-id
invariant-loop-id l =
    l.shown.items ≡ filter (is_among (shown_ids l.self.held (segment l.book l.key))) (take l.id-index l.ids)
