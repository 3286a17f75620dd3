use Rattle.std.proofs.Common.{rules, of_calls}
use Rattle.std.specs.Ordering.{is_lt}
use Rattle.usfm_ref.specs.Segments.{segment_cmp}
use Rattle.usfm_ref.proofs.Orders.{segment_total}
use Rattle.usfm_ref.proofs.Sorted.{parted}
use Rattle.op_core.specs.Loops.Index.{home_of, chapter_of}
use Rattle.op_core.specs.declared.index.chapter.Chapter.{Chapter}
use Rattle.op_core.proofs.index.place.place_chapter.Goals as goal

pub returns-clause-place : goal.returns-clause-place
returns-clause-place c =
    let g = chapter_of c.args.segment.now in
    c.place_by-at.ensures.place (λ (h : Chapter). is_lt (segment_cmp (home_of h) g)) (λ a r k. search (rules, of_calls))
    (parted segment_cmp segment_total home_of g c.args.chapters.now c.requires.rising)
