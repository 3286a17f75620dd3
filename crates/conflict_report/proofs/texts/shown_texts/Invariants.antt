use Rattle.std.proofs.Common.{vec_len}
use Rattle.usfm_ref.specs.Segments.{segment}
use Rattle.op_core.specs.Shown.{shown}
use Rattle.conflict_report.proofs.Latest.{IsWalked, now_of}
use Rattle.conflict_report.proofs.Seen.{Seen}
use Rattle.conflict_report.proofs.texts.shown_texts.Given as goal

-- the operations after those that are left are in the lists, and their texts are gathered
abbrev pub invariant-falling : goal.invariant-falling
invariant-falling l = record {
  walked : IsWalked (shown l.fn.cursor (segment l.fn.book l.fn.key)) (now_of l.shown.items) (now_of l.distinct.items)
      (now_of l.repeated.items);
  seen : Seen l.texts l.distinct.items;
}

abbrev pub decreases-falling : goal.decreases-falling
decreases-falling l = vec_len l.shown
