use Rattle.std.proofs.Common.{◌≡◌, None, take}
use Rattle.std.specs.List.{flat_map}
use Rattle.bundle_codec.specs.Summaries.{covers}
use Rattle.segment_history.specs.Restores.{first_left_out, restored_at}
use Rattle.segment_history.proofs.restore.restored_since.Given as goal

abbrev pub invariant-loop-segment : goal.invariant-loop-segment
invariant-loop-segment l = record {
  edits : l.edits.items ≡ flat_map (restored_at l.bundle (covers l.known)) (take l.segment-index l.segments);
  there : first_left_out l.bundle (covers l.known) (take l.segment-index l.segments) ≡ None;
}
