use Rattle.std.proofs.Common.{ap, ◌∙◌}
use Rattle.usfm_ref.specs.Segments.{segment}
use Rattle.op_core.specs.Ids.{ids_rise}
use Rattle.op_core.proofs.Indexed.Kept.{shown_ids_rise}
use Rattle.replica_state.specs.States.{IsState}
use Rattle.replica_state.proofs.replica.Replica.shows_id.Goals as goal

pub is_among-requires : goal.is_among-requires
is_among-requires c =
    let state : IsState (record { name = c.self.inside.name; held = c.self.inside.set }) = c.self.invariant in
    record {
      rising = ap ids_rise c.shown_ids.ensures
          ∙ shown_ids_rise c.self.inside.set (segment c.args.book c.args.key) state.set.rising;
    }
