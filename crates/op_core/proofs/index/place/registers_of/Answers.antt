use Rattle.std.proofs.Common.{sym, ap, ◌∙◌, arith}
use Rattle.std.specs.Ordering.{is_eq}
use Rattle.usfm_ref.specs.Segments.{segment_cmp}
use Rattle.usfm_ref.proofs.Orders.{segment_total}
use Rattle.usfm_ref.proofs.Sorted.{found_here, found_not, found_end, tied_back}
use Rattle.op_core.specs.Loops.Index.{home_of, chapter_of, registers_in}
use Rattle.op_core.proofs.index.place.registers_of.Goals.{then-at-chapters+else-is_eq, else-at-chapters}
use Rattle.op_core.proofs.index.place.registers_of.Goals as goal

pub returns-then-is_eq-clause-found : goal.returns-then-is_eq-clause-found
returns-then-is_eq-clause-found c =
    let here = found_here segment_cmp segment_total home_of
    (chapter_of c.args.segment.now) c.args.chapters.now c.place_chapter-at.result c.index-chapters-at.result
    c.requires.rising c.place_chapter-at.ensures.place c.if-at-chapters.true c.index-chapters-at.is
    (tied_back segment_cmp segment_total (home_of c.index-chapters-at.result) (chapter_of c.args.segment.now) _
    (sym (c.is_eq.ensures ∙ ap is_eq c.order.ensures) ∙ c.if-is_eq.true)) in
    c.deref.ensures.value ∙ ap registers_in (sym here)

pub returns-clause-found : goal.returns-clause-found
returns-clause-found c =
    ap registers_in (sym (elim c.if-at-chapters.branch [
      | then-at-chapters+else-is_eq w ↦ found_not segment_cmp segment_total home_of
          (chapter_of c.args.segment.now) c.args.chapters.now c.place_chapter-at.result w.index-chapters-at.result
          c.requires.rising c.place_chapter-at.ensures.place w.index-chapters-at.is
          (tied_back segment_cmp segment_total (home_of w.index-chapters-at.result) (chapter_of c.args.segment.now) _
          (sym (w.is_eq.ensures ∙ ap is_eq w.order.ensures) ∙ w.if-is_eq.false))
      | else-at-chapters w ↦ found_end segment_cmp segment_total home_of
          (chapter_of c.args.segment.now) c.args.chapters.now c.place_chapter-at.result c.requires.rising
          c.place_chapter-at.ensures.place (omega arith)
    ]))
