use Rattle.std.proofs.Common.{sym, ap, ◌≡◌, ◌≤◌, ◌∙◌, true, is_ok, length, reverse, arith}
use Rattle.std.proofs.lemmas.Bool.{cond-true}
use Rattle.usfm_ref.specs.Segments.{segment_cmp}
use Rattle.usfm_ref.proofs.Orders.{segment_total}
use Rattle.usfm_ref.proofs.Sorted.{place}
use Rattle.op_core.specs.Loops.Index.{home_of, chapter_of, begins_above}
use Rattle.op_core.specs.declared.index.chapter.Chapter.{Chapter}
use Rattle.op_core.proofs.Indexed.Between.{rises_front}
use Rattle.op_core.proofs.Indexed.Laid.{chapters_moved, chapter_more}
use Rattle.op_core.proofs.index.lay.merge_chapters.Goals as goal

pub place_chapter-at-requires : goal.place_chapter-at-requires
place_chapter-at-requires c = record {
  rising = rw c.deref.ensures.value (rises_front segment_cmp segment_total home_of
      c.laying.chapters.items (reverse c.laying.tail.items) c.laying.invariant.lays.orderly.rising);
}

pub laying-preserved-then-is_under : goal.laying-preserved-then-is_under
laying-preserved-then-is_under c =
    let h = c.laying.invariant in
    let m = c.move_after.ensures in
    let g = c.in-Some.segment.now in
    let n = c.place_chapter-at.result in
    let at : n ≡ place segment_cmp segment_total home_of (chapter_of g) c.laying.chapters.items = c.place_chapter-at.ensures.place
    ∙ ap (place segment_cmp segment_total home_of (chapter_of g)) c.deref.ensures.value in
    let within : n ≤ length c.laying.chapters.items = omega (arith, c.place_chapter-at.ensures.within, c.deref.ensures.len) in
    let y : Chapter = c.new.result in
    let under : begins_above segment_cmp home_of (chapter_of g) (reverse c.move_after.new.to.items) ≡ true =
    (λ i. begins_above segment_cmp home_of (chapter_of g) (reverse (sym c.deref-then-len-capacity-2.ensures.value i)))
    ∙ sym c.is_under.ensures ∙ c.if-is_under.true in
    let went : is_ok c.push.result ≡ true = ap is_ok c.unwrap.ensures in
    let pushed = c.push.ensures.len ∙ cond-true _ _ _ went in
    record {
      lays = chapter_more g c.args.chapters.now.items c.laying.chapters.items c.laying.tail.items
          c.move_after.new.list.items c.move_after.new.to.items c.push.new.self.items n y within at m.left m.moved under
          c.new.ensures.home c.new.ensures.registers (c.push.ensures.items ∙ cond-true _ _ _ went) h.lays;
      room = omega (arith, h.room, m.left_len, m.moved_len, m.left_room, pushed, c.if-len-capacity.true);
      spare = omega (arith, h.spare, m.left_len, m.moved_len, m.moved_room, pushed, c.push.ensures.capacity, c.if-len-capacity-2.true);
    }

pub laying-preserved : goal.laying-preserved
laying-preserved c =
    let h = c.laying.invariant in
    let m = c.move_after.ensures in
    record {
      lays = chapters_moved c.args.chapters.now.items c.laying.chapters.items c.laying.tail.items c.move_after.new.list.items
          c.move_after.new.to.items c.place_chapter-at.result m.left m.moved h.lays;
      room = omega (arith, h.room, m.left_len, m.moved_len, m.left_room);
      spare = omega (arith, h.spare, m.left_len, m.moved_len, m.moved_room);
    }
